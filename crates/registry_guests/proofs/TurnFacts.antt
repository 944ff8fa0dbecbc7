-- Why a service isn't asked, and how a reply is parsed.
use Rattle.std.proofs.Common.{◌≡◌, ◌∙◌, ℕ, Bool, true, false, List, [], ◌∷◌, get_or, Result, Ok, Err, refl, sym, ap, inl, inr}
use Rattle.clap.specs.Takes.{takes}
use Rattle.clap.specs.Walk.{Text}
use Rattle.registry_cli.specs.Lines.{has_both}
use Rattle.registry_cli.specs.Subcommands.{registry}
use Rattle.registry_cli.specs.Usages.{IsMemoryOrBoth, said_of_both}
use Rattle.registry_cli.specs.declared.printed.Printed.{Printed}
use Rattle.registry_cli.specs.declared.usage.Usage.TheVariants as usages
use Rattle.registry_guests.specs.GuestTurns.{IsUnasked}
use Rattle.registry_guests.specs.Replies.{ParsesAs, ParsesIn}
use Rattle.registry_guests.specs.Reading.{Fails}
use Rattle.registry_guests.specs.Outputs.{Output, on_usage}
use Rattle.registry_guests.specs.declared.fault.ReadError.{ReadError}
use Rattle.registry_guests.specs.declared.fault.ReadError.TheVariants as errors
use Rattle.registry_guests.specs.declared.command_reply.CommandReply.{CommandReply}

words-both : (ws : List Text) (p : Printed) (text : Text) → p ≡ on_usage text → IsMemoryOrBoth (usages.Words text) (has_both ws) → IsUnasked ws p
words-both ws p text says (inl memory) = absurd (cc)
words-both ws p text says (inr output) =
    let e = output.0 in
    let same : text ≡ said_of_both = cc in
    inr (inr (inr (inl (output.1, says ∙ ap on_usage same))))

-- the program doesn't take the words, or they have both
pub words-unasked : (ws : List Text) (p : Printed) (text : Text) (b : Bool) → takes registry ws ≡ b → p ≡ on_usage text
    → (takes registry ws ≡ true → IsMemoryOrBoth (usages.Words text) (has_both ws)) → IsUnasked ws p
words-unasked ws p text false is says both = inr (inr (inl (is, text, says)))
words-unasked ws p text true is says both = words-both ws p text says (both is)

-- ---- how a reply is parsed

pub parses-as : (ws : List (List ℕ)) (body : List ℕ) (r : Result CommandReply ReadError) (s : Output) → ParsesIn ws body r → ws ≡ (s.status ∷ []) ∷ s.end ∷ [] → body ≡ s.text → ParsesAs r s
parses-as ws body (Ok h) s is e f =
    let both : (h.status ∷ []) ∷ h.end.items ∷ [] ≡ (s.status ∷ []) ∷ s.end ∷ [] = sym is.0 ∙ e in
    let status : h.status ≡ s.status = ap (λ (l : List (List ℕ)). get_or (get_or l 0 []) 0 0) both in
    let end : h.end.items ≡ s.end = ap (λ (l : List (List ℕ)). get_or l 1 []) both in
    let text : h.text.now ≡ s.text = sym is.1 ∙ f in
    rw (status, text, end) refl
parses-as ws body (Err errors.Memory) s is e f = tt
parses-as ws body (Err (errors.Malformed m)) s is e f = absurd (is s.status s.end e)

pub err-parses : (e : ReadError) (x : List (List ℕ) × List ℕ) (s : Output) → Fails e (Ok x) → ParsesAs (Err e) s
err-parses errors.Memory x s fails = tt
err-parses (errors.Malformed m) x s fails = absurd (cc)
