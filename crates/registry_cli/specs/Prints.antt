-- What the program prints of an answer, and the status with which it ends.
use Rattle.std.specs.Prelude.{◌⊎◌, ℕ, Bool, List, [], ◌++◌, Option, codes, decimal}
use Rattle.registry_names.specs.ByteStreams.{Writes, WritesPrefix}
use Rattle.registry_names.specs.Refusals.{refusal_text}
use Rattle.registry_rules.specs.declared.reply.Reply.{Reply}
use Rattle.registry_rules.specs.declared.reply.Reply.TheVariants.{Created, Done, Count, Doc, Bytes, Refused}
use Rattle.registry_cli.specs.declared.printed.Printed.{Printed}

abbrev pub newline : List ℕ
newline = codes "\n"

-- on standard output, status 0
abbrev pub on_output : List ℕ → Printed
on_output bytes = record { out = bytes; err = []; status = 0 }

-- on standard error, status 1
abbrev pub on_errors : List ℕ → Printed
on_errors text = record { out = []; err = text; status = 1 }

abbrev pub done : List ℕ
done = codes "{\"ok\":true}"

abbrev pub printed : Reply → Printed
printed Created = on_output (done ++ newline)
printed Done = on_output (done ++ newline)
printed (Count n) = on_output (codes "{\"count\":" ++ decimal n ++ codes ",\"ok\":true}" ++ newline)
printed (Doc text) = on_output (text ++ newline)
printed (Bytes archive) = on_output archive
printed (Refused refusal) = on_errors (codes "refused: " ++ refusal_text refusal ++ newline)

-- ---- of a line that adds a token which was made: the token where it was added, and nowhere else

abbrev pub token_out : List ℕ → Reply → List ℕ
token_out token Created = token ++ newline
token_out token Done = token ++ newline
token_out token reply = (printed reply).out

abbrev pub printed_token : List ℕ → Reply → Printed
printed_token token reply = record (printed reply) { out = token_out token reply }

-- ---- where it is printed

-- In one or more calls a stream took this text, or a prefix of it.
abbrev pub WritesSome : Option (List ℕ) → Option (List ℕ) → Bool → List ℕ → Type 0
WritesSome old new unknown text = Writes old new unknown text ⊎ WritesPrefix old new unknown text
