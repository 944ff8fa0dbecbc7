-- The name of a user after npm's prefix.
use Rattle.std.proofs.Common.{◌≡◌, ◌≢◌, ◌∙◌, ◌++◌, ℕ, List, drop, true, false, Result, Ok, Err, refl, sym, ap, inl, inr}
use Rattle.std.specs.Prelude.{IfErr, IfOk, IsUtf8}
use Rattle.std.proofs.lemmas.Bool.{false≢true}
use Rattle.registry_names.specs.Faults.{IsMemoryOr}
use Rattle.registry_names.specs.Idents.{is_ident}
use Rattle.registry_names.specs.declared.refusal.Refusal.TheVariants.{BadName}
use Rattle.registry_names.specs.declared.stop.Stop.{Stop}
use Rattle.registry_names.specs.declared.stop.Stop.TheVariants.{Refused}
use Rattle.registry_routes.specs.Routes.{Values}
use Rattle.registry_routes.specs.Written.{text_of}
use Rattle.registry_service.specs.Readings.{one}
use Rattle.registry_npm.specs.Asked.{reads_user, reads_user_in, user_prefix}

abbrev Text : Type 0
Text = List ℕ

pub cancel : (a b : Text) → user_prefix ++ a ≡ user_prefix ++ b → a ≡ b
cancel a b e = ap (λ (t : Text). drop 17 t) e

pub user_some : (text name : Text) (r : Result Text Stop) → text ≡ user_prefix ++ name → IfOk r (λ i. (i ≡ name) × (is_ident name ≡ true)) → IfErr r (IsMemoryOr BadName (is_ident name ≡ false)) → reads_user_in text r
user_some text name (Ok i) e ok err = (e ∙ ap (λ (t : Text). user_prefix ++ t) (sym ok.0), ap is_ident ok.0 ∙ ok.1)
user_some text name (Err s) e ok (inl memory) = inl memory
user_some text name (Err s) e ok (inr (bad, no_ident)) = inr (bad, λ n h. let same : name ≡ n = cancel name n (sym e ∙ h.0) in false≢true (sym no_ident ∙ (ap is_ident same ∙ h.1)))

pub user_none : (text : Text) → ((rest : Text) → text ≢ user_prefix ++ rest) → reads_user_in text (Err (Refused BadName))
user_none text h = inr (refl, λ n is. h n is.0)

user_read : (written text : Text) (r : Result Text Stop) → text ≡ text_of written → IsUtf8 text → reads_user_in text r → reads_user written r
user_read written text (Ok name) e utf8 h = rw (← e) h
user_read written text (Err s) e utf8 (inl memory) = inl (inl memory)
user_read written text (Err s) e utf8 (inr (bad, h)) = inr (bad, rw (← e) utf8, rw (← e) h)

pub user_whole : (v : Values) (text : Text) (r : Result Text Stop) → text ≡ text_of v.first → IsUtf8 text → reads_user_in text r → one reads_user v r
unfolding one
user_whole v text r e utf8 h = user_read v.first text r e utf8 h
