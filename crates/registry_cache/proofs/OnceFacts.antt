-- No name is kept twice.
use Rattle.std.proofs.Common.{◌≡◌, ℕ, ◌-◌, nat_le, Bool, true, false, cond, not, [], ◌∷◌, ◌++◌, filter, Option, Some, None, refl, sym, ap, ◌∙◌, subst}
use Rattle.std.specs.Option.{option_map_or, option_to_list}
use Rattle.registry_names.specs.Texts.{Text, is}
use Rattle.registry_names.specs.Maps.{first_at}
use Rattle.registry_names.proofs.TextFacts.{is_self, is_sym}
use Rattle.registry_names.proofs.KeyFacts.{text_key}
use Rattle.registry_names.proofs.MapFacts.{first_at-kept}
use Rattle.registry_cache.specs.Caches.{Entries, Cache, cost, texts, kept, kept_where, entries_without, prefix, forgotten, is_large, without_large, asked, beside}
use Rattle.registry_cache.specs.Laws.{AreOnce, AskedKeepsOnce, ForgottenKeepsOnce, PutKeepsOnce, RoomKeepsOnce}
use Rattle.registry_cache.proofs.CacheFacts.{asked_at, behind_none, big, kept-kept_where, kept_small, no_large, none_in_prefix, none_kept, none_under, passed_texts, small}

-- ---- some of them

none_where : (b : Bool) (o : Option Text) → o ≡ None → cond b o None ≡ None
none_where true o h = h
none_where false o h = refl

either_once : (e : Text × Text) (fs : Entries) (b : Bool) → first_at is fs e.0 ≡ None → AreOnce fs → AreOnce (cond b (e ∷ fs) fs)
either_once e fs true none once = (none, once)
either_once e fs false none once = once

filter_once : (test : Text → Bool) (es : Entries) → AreOnce es → AreOnce (filter (λ e. test e.0) es)
filter_once test [] once = once
filter_once test (e ∷ es) once =
    either_once e (filter (λ d. test d.0) es) (test e.0) (first_at-kept text_key es test e.0 ∙ none_where (test e.0) (first_at is es e.0) once.0) (filter_once test es once.1)

begun_once : (e : Text × Text) (fs : Entries) (b : Bool) → first_at is fs e.0 ≡ None → AreOnce fs → AreOnce (cond b (e ∷ fs) [])
begun_once e fs true none once = (none, once)
begun_once e fs false none once = tt

prefix_once : (room : ℕ) (es : Entries) → AreOnce es → AreOnce (prefix room es)
prefix_once room [] once = once
prefix_once room (e ∷ es) once =
    begun_once e (prefix (room - cost e) es) (nat_le (cost e) room) (none_in_prefix (room - cost e) es e.0 once.0) (prefix_once (room - cost e) es once.1)

where_once : (s : Cache) (test : Text → Bool) → AreOnce (texts s) → AreOnce (texts (kept_where s test))
where_once s test once = subst AreOnce (sym (passed_texts test s.entries s.large)) (filter_once test (texts s) once)

pub forgotten_once : ForgottenKeepsOnce
forgotten_once name s once = where_once s (λ q. not (is q name)) once

-- ---- behind a large text

behind_once : (o : Option (Text × Text)) (es fs : Entries) → ((k : Text) → first_at is es k ≡ None → first_at is fs k ≡ None) → (AreOnce es → AreOnce fs)
    → AreOnce (option_to_list o ++ es) → AreOnce (option_to_list o ++ fs)
behind_once None es fs none on once = on once
behind_once (Some e) es fs none on once = (none e.0 once.0, on once.1)

moved_once : (name : Text) (es : Entries) (o : Option Text) → AreOnce es → AreOnce (option_map_or (λ text. (name, text) ∷ entries_without name es) o es)
moved_once name es None once = once
moved_once name es (Some text) once = (none_under name es, filter_once (λ q. not (is q name)) es once)

pub asked_once : AskedKeepsOnce
asked_once name s once =
    behind_once s.large s.entries (asked s name).entries (λ k none. asked_at name k s.entries (first_at is s.entries name) refl ∙ none)
    (moved_once name s.entries (first_at is s.entries name)) once

-- ---- what is put

not_its_name : (b : Bool) (v : Text) (o : Option Text) → cond b (Some v) o ≡ None → b ≡ false
not_its_name true v o h = cc
not_its_name false v o h = refl

cons_once : (o : Option (Text × Text)) (name text : Text) (es : Entries) → first_at is (option_to_list o ++ es) name ≡ None → first_at is es name ≡ None
    → AreOnce (option_to_list o ++ es) → AreOnce (option_to_list o ++ (name, text) ∷ es)
cons_once None name text es h none once = (none, once)
cons_once (Some e) name text es h none once =
    (ap (λ b. cond b (Some text) (first_at is es e.0)) (is_sym name e.0 ∙ not_its_name (is e.0 name) e.1 (first_at is es name) h) ∙ once.0, (none, once.1))

module _ (name text : Text) (s : Cache) (once : AreOnce (texts s)) where
  beside_once : AreOnce (texts (beside s name text))
  beside_once =
      behind_once (forgotten s name).large (forgotten s name).entries (beside s name text).entries (none_in_prefix (s.limit - cost (name, text)) (forgotten s name).entries)
      (prefix_once (s.limit - cost (name, text)) (forgotten s name).entries) (forgotten_once name s once)

  none_beside : first_at is (beside s name text).entries name ≡ None
  none_beside = none_in_prefix (s.limit - cost (name, text)) (forgotten s name).entries name (none_under name s.entries)

  small_once : AreOnce (texts (small s name text))
  small_once =
      cons_once (forgotten s name).large name text (beside s name text).entries
      (behind_none (forgotten s name).large (forgotten s name).entries (beside s name text).entries name (none_kept s name text name (is_self name)) ∙ none_beside)
      none_beside beside_once

  apart_once : AreOnce (texts (without_large (forgotten s name)))
  apart_once = where_once (forgotten s name) (λ q. not (is_large (forgotten s name) q)) (forgotten_once name s once)

  none_apart : first_at is (without_large (forgotten s name)).entries name ≡ None
  none_apart =
      sym (kept_small (forgotten s name) name) ∙ kept-kept_where (forgotten s name) (λ q. not (is_large (forgotten s name) q)) name
      ∙ none_where (not (is_large (forgotten s name) name)) (kept (forgotten s name) name) (none_kept s name text name (is_self name))

  big_once : AreOnce (texts (big s name text))
  big_once = (none_apart, subst (λ (o : Option (Text × Text)). AreOnce (option_to_list o ++ (without_large (forgotten s name)).entries)) (no_large (forgotten s name)) apart_once)

  either : (t u : Cache) (b : Bool) → AreOnce (texts t) → AreOnce (texts u) → AreOnce (texts (cond b t u))
  either t u true in_t in_u = in_t
  either t u false in_t in_u = in_u

pub put_once : PutKeepsOnce
put_once name text s once =
    either name text s once (small s name text) (big s name text) (nat_le (cost (name, text)) s.limit) (small_once name text s once) (big_once name text s once)

pub room_once : RoomKeepsOnce
room_once name text s once =
    either name text s once (beside s name text) (without_large (forgotten s name)) (nat_le (cost (name, text)) s.limit) (beside_once name text s once) (apart_once name text s once)
