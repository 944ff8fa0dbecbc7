-- What a service was asked, and what that came to, one request after the other.
use Rattle.std.proofs.Common.{◌≡◌, ◌∷◌, [], Bool, true, false, List, Option, Some, None, Result, Ok, Err, refl, inl, inr, ℕ}
use Rattle.std.specs.Prelude.{IfOk, MatchResult}
use Rattle.registry_names.specs.declared.stop.Fault.{Fault}
use Rattle.registry_names.specs.declared.stop.Fault.TheVariants.{Database, Memory}
use Rattle.registry_names.specs.declared.stop.Stop.{Stop}
use Rattle.registry_names.specs.Texts.{Text}
use Rattle.registry_rules.specs.declared.reply.Reply.TheVariants.{Doc}
use Rattle.registry_rules.specs.declared.request.Action.TheVariants.{Teams}
use Rattle.registry_rules.specs.declared.request.Request.{Request}
use Rattle.registry_service.specs.HttpAnswers.{Outcome}
use Rattle.registry_service.specs.Readings.{Reading}
use Rattle.registry_service.specs.Turns.{Answering, exchange, stopped}
use Rattle.registry_rules.specs.declared.request.Action.TheVariants.{WhoAmI}
use Rattle.registry_rules.specs.declared.request.Credential.{Credential}
use Rattle.registry_service.specs.Callers.{reads_caller}
use Rattle.registry_wire.specs.declared.wanted.Wanted.{Wanted}
use Rattle.registry_npm.specs.Callers.{who_of}
use Rattle.registry_npm.specs.Collaborators.{for_form}
use Rattle.registry_npm.specs.Leading.{Comes, Leads, asks, by_user, document_of, either, ends, is_stop, or_memory, reading, request, unless_stopped}
use Rattle.registry_npm.specs.Packages.{for_document, for_names}
use Rattle.registry_npm.specs.Users.{IsStranger, IsUser, refused_by}
use Rattle.registry_npm.specs.declared.caller.Caller.{Caller}

-- the organisation that an action names
pub same-teams : (a b : Text) → Teams a ≡ Teams b → a ≡ b
same-teams a b e = cc e

module _ {D : Type 0} (answers : Answering D) where
  -- what is read, before what no memory may be left for
  pub comes-judged : {A : Type 0} (M N : D) (reads : Reading A) (next : A → Leads) (a : A) (o : Outcome) → reads (Ok a) → Comes answers M (or_memory (next a)) o N → Comes answers M (or_memory (reading reads next)) o N
  unfolding or_memory reading
  comes-judged M N reads next a o r (es, inl h, later) = (es, inl (inl (a, r, h)), later)
  comes-judged M N reads next a o r (es, inr h, later) = (es, inr h, later)

  -- the second of two
  pub comes-unless : (M : D) (b : Bool) (fst : Leads) (c : Outcome) → b ≡ false → Comes answers M (or_memory (either b fst (ends c))) c M
  unfolding or_memory
  comes-unless M b fst c e = ([], inl (rw e (refl, refl)), refl)

  -- nothing is asked
  pub comes-alone : (M : D) (leads : Leads) (o : Outcome) → leads [] o → Comes answers M leads o M
  comes-alone M leads o h = ([], h, refl)

  -- one request, and then what follows its outcome
  pub comes-asked : (M K N : D) (q r : Request) (first : Outcome) (next : Outcome → Leads) (o : Outcome) → q ≡ r → answers M q first K → Comes answers K (next first) o N → Comes answers M (asks r next) o N
  unfolding asks
  comes-asked M K N q r first next o same a (es, h, later) = (exchange q first ∷ es, (same, h), (K, a, later))

  -- or snd memory is left
  pub comes-or : (M N : D) (leads : Leads) (o : Outcome) → Comes answers M leads o N → Comes answers M (or_memory leads) o N
  unfolding or_memory
  comes-or M N leads o (es, h, later) = (es, inl h, later)

  pub comes-starved : (M : D) (leads : Leads) → Comes answers M (or_memory leads) (Err Memory) M
  unfolding or_memory
  comes-starved M leads = ([], inr (refl, refl), refl)

  -- what is read is in form
  pub comes-read : {A : Type 0} (M N : D) (reads : Reading A) (next : A → Leads) (a : A) (o : Outcome) → reads (Ok a) → Comes answers M (next a) o N → Comes answers M (reading reads next) o N
  unfolding reading
  comes-read M N reads next a o r (es, h, later) = (es, inl (a, r, h), later)

  -- what is read isn't in form
  pub comes-stopped : {A : Type 0} (M : D) (reads : Reading A) (next : A → Leads) (s : Stop) (o : Outcome) → reads (Err s) → o ≡ stopped s → Comes answers M (reading reads next) o M
  unfolding reading
  comes-stopped M reads next s o r e = ([], inr (s, r, (refl, e)), refl)

  -- what the registry answered isn't a refusal or a fault
  pub comes-on : (M N : D) (next : Leads) (c o : Outcome) → is_stop c ≡ false → Comes answers M next o N → Comes answers M (unless_stopped next c) o N
  comes-on M N next c o e (es, h, later) = (es, rw e h, later)

  -- it is one
  pub comes-stop : (M : D) (next : Leads) (c : Outcome) → is_stop c ≡ true → Comes answers M (unless_stopped next c) c M
  comes-stop M next c e = ([], rw e (refl, refl), refl)

  -- the first where a test holds, and otherwise the second
  pub comes-either : (M N : D) (b : Bool) (fst snd : Leads) (o : Outcome) → b ≡ true → Comes answers M fst o N → Comes answers M (either b fst snd) o N
  comes-either M N b fst snd o e (es, h, later) = (es, rw e h, later)

  pub comes-or_else : (M N : D) (b : Bool) (fst snd : Leads) (o : Outcome) → b ≡ false → Comes answers M snd o N → Comes answers M (either b fst snd) o N
  comes-or_else M N b fst snd o e (es, h, later) = (es, rw e h, later)

  -- what was answered is a document, or it isn't
  pub comes-document : (M N : D) (next : Text → Leads) (other : Leads) (c : Outcome) (text : Text) (o : Outcome) → c ≡ Ok (Doc text) → Comes answers M (next text) o N → Comes answers M (for_document next other (document_of c)) o N
  comes-document M N next other c text o e (es, h, later) = (es, rw e h, later)

  pub comes-other : (M N : D) (next : Text → Leads) (other : Leads) (c o : Outcome) → document_of c ≡ None → Comes answers M other o N → Comes answers M (for_document next other (document_of c)) o N
  comes-other M N next other c o e (es, h, later) = (es, rw e h, later)

  -- a text of names, or it isn't one
  pub comes-names : (M N : D) (next : List Text → Leads) (names : Option (List Text)) (ns : List Text) (o : Outcome) → names ≡ Some ns → Comes answers M (next ns) o N → Comes answers M (or_memory (for_names next names)) o N
  unfolding or_memory
  comes-names M N next names ns o e (es, h, later) = (es, inl (rw e h), later)

  pub comes-nameless : (M : D) (next : List Text → Leads) (names : Option (List Text)) → names ≡ None → Comes answers M (or_memory (for_names next names)) (Err Database) M
  unfolding or_memory
  comes-nameless M next names e = ([], inl (rw e (refl, refl)), refl)

  pub comes-ended : (M : D) (c : Outcome) → Comes answers M (ends c) c M
  comes-ended M c = ([], (refl, refl), refl)

  -- a test that memory may be lacking for
  pub comes-tested : (M N : D) (b : Bool) (made : Result Bool Fault) (this other : Leads) (o : Outcome) → IfOk made (λ x. x ≡ b) → MatchResult made (λ x. Comes answers M (either x this other) o N) (λ f. (o ≡ Err Memory) × (N ≡ M))
      → Comes answers M (or_memory (either b this other)) o N
  comes-tested M N b (Ok x) this other o e h = comes-or M N (either b this other) o (rw (← e) h)
  comes-tested M N b (Err f) this other o e h = rw (h.0, h.1) (comes-starved M (either b this other))

  -- what is in form, before what memory may be lacking for
  pub comes-formed : {A : Type 0} (M N : D) (next : A → Leads) (form : Option A) (a : A) (o : Outcome) → form ≡ Some a → Comes answers M (next a) o N → Comes answers M (or_memory (for_form next form)) o N
  unfolding or_memory
  comes-formed M N next form a o e (es, h, later) = (es, inl (rw e h), later)

  pub comes-formless : {A : Type 0} (M : D) (next : A → Leads) (form : Option A) → form ≡ None → Comes answers M (or_memory (for_form next form)) (Err Database) M
  unfolding or_memory
  comes-formless M next form e = ([], inl (rw e (refl, refl)), refl)

  -- a user calls, or who is none
  module _ (w : Wanted) (at : ℕ) (is_revised : Bool) (next : Credential → Leads) where
    pub comes-user : (M K N : D) (who : Caller) (o : Outcome) → IsUser answers w at M who K → Comes answers K (next (who_of who)) o N → Comes answers M (by_user (refused_by is_revised) w at next) o N
    comes-user M K N who o (is, (c, on, a)) h =
        comes-read M N (reads_caller w.authorization) _ (who_of who) o is (comes-asked M K N (request at (who_of who) WhoAmI) (request at (who_of who) WhoAmI) c _ o refl a (comes-or_else K N (is_stop c) _ (next (who_of who)) o on h))

    pub comes-stranger : (M N : D) (o : Outcome) → IsStranger answers w at is_revised M o N → Comes answers M (by_user (refused_by is_revised) w at next) o N
    comes-stranger M N o (inl (s, is, same, left)) = rw left (comes-stopped M (reads_caller w.authorization) _ s o is same)
    comes-stranger M N o (inr (who, c, is, stops, a, answered)) =
        comes-read M N (reads_caller w.authorization) _ (who_of who) o is (comes-asked M N N (request at (who_of who) WhoAmI) (request at (who_of who) WhoAmI) c _ o refl a (comes-either N N (is_stop c) (refused_by is_revised c) _ o stops (comes-alone N (refused_by is_revised c) o answered)))
