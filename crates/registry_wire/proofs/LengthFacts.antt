-- Lengths of bodies, and of bytes that are no whole request.
use Rattle.std.proofs.Common.{◌≡◌, ◌<◌, ◌≤◌, ◌++◌, ℕ, Bool, true, false, List, length, refl, sym, ap, arith, inl, inr, length-append, Result, Ok, Err, if◌then◌else◌}
use Rattle.std.specs.Prelude.{nat_le, codes}
use Rattle.std.specs.List.{list_any}
use Rattle.std.specs.Str.Parse.{digits_value}
use Rattle.std.proofs.lemmas.Bool.{leb-true}
use Rattle.httparse.specs.Grammar.{print_request}
use Rattle.registry_names.specs.Bodies.{body_limit}
use Rattle.registry_names.specs.declared.refusal.Refusal.{Refusal}
use Rattle.registry_names.specs.declared.refusal.Refusal.TheVariants.{BadBody, TooLarge}
use Rattle.registry_wire.specs.Fields.{Fields, Said, absent, once, repeated, body_len, codes_body, fields_of, is_number, said, said_len, within_limit}
use Rattle.registry_wire.specs.Inboxes.{held_limit, piece_limit}
use Rattle.registry_wire.specs.Spelling.{IsUnfinished, request_limit}

-- two lengths, or refusals, are the same
abbrev pub Is : Result ℕ Refusal → Result ℕ Refusal → Type 0
Is a b = a ≡ b

ok-of : Result ℕ Refusal → ℕ
ok-of (Ok n) = n
ok-of (Err r) = 0

pub same-ok : (m n : ℕ) → Is (Ok m) (Ok n) → m ≡ n
unfolding ok-of
same-ok m n e = ap ok-of e

err-of : Result ℕ Refusal → Refusal
err-of (Ok n) = BadBody
err-of (Err r) = r

pub same-err : (r q : Refusal) → Is (Err r) (Err q) → r ≡ q
unfolding err-of
same-err r q e = ap err-of e

pub ok-not_err : (n : ℕ) (r : Refusal) → ¬ (Is (Ok n) (Err r))
ok-not_err n r e = cc

-- ---- a length that a head says is within the limit of bodies

within-bound : (m n : ℕ) (b : Bool) → nat_le m body_limit ≡ b → Is (if b then Ok m else Err TooLarge) (Ok n) → n ≤ body_limit
within-bound m n true low e = omega (arith, same-ok m n e, leb-true m body_limit low)
within-bound m n false low e = absurd (ok-not_err n TooLarge (sym e))

written-bound : (m n : ℕ) (b : Bool) → Is (if b then within_limit m else Err BadBody) (Ok n) → n ≤ body_limit
written-bound m n true e = within-bound m n (nat_le m body_limit) refl e
written-bound m n false e = absurd (ok-not_err n BadBody (sym e))

said-bound : (s : Said) (n : ℕ) → Is (said_len s) (Ok n) → n ≤ body_limit
said-bound absent n e = omega (arith, same-ok 0 n e)
said-bound (once text) n e = written-bound (digits_value 10 text) n (is_number text) e
said-bound repeated n e = absurd (ok-not_err n BadBody (sym e))

coded-bound : (b : Bool) (s : Said) (n : ℕ) → Is (if b then Err BadBody else said_len s) (Ok n) → n ≤ body_limit
coded-bound true s n e = absurd (ok-not_err n BadBody (sym e))
coded-bound false s n e = said-bound s n e

body-bound : (fs : Fields) (n : ℕ) → Is (body_len fs) (Ok n) → n ≤ body_limit
body-bound fs n e = coded-bound (list_any codes_body fs) (said (codes "content-length") fs) n e

-- ---- unfinished bytes are fewer than a request may have

unfinished-short : (bytes : List ℕ) → IsUnfinished bytes → length bytes < request_limit
unfinished-short bytes (inl lacks) = omega (arith, lacks.short)
unfinished-short bytes (inr lacks) =
    let size = ap length lacks.begins.reads.1 in
    let bound = body-bound (fields_of lacks.head) lacks.size lacks.len in
    omega (arith, size, length-append (print_request lacks.head) lacks.after, lacks.begins.fits, lacks.short, bound)

-- so one more read doesn't make them more than are ever held
pub bounded-more : (bytes piece : List ℕ) → IsUnfinished bytes → length piece ≤ piece_limit → length (bytes ++ piece) < held_limit
bounded-more bytes piece unfinished few = omega (arith, unfinished-short bytes unfinished, length-append bytes piece, few)
