-- What is kept under each name after each change of a cache.
use Rattle.std.proofs.Common.{◌≡◌, ℕ, ◌-◌, ◌≤◌, ◌<◌, nat_le, Bool, true, false, cond, not, ◌&&◌, [], ◌∷◌, ◌++◌, filter, MatchBool, Option, Some, None, refl, sym, ap, ap₂, ◌∙◌}
use Rattle.std.specs.Option.{option_map_or, option_to_list}
use Rattle.std.proofs.lemmas.Bool.{le-leb, lt-leb}
use Rattle.registry_names.specs.Texts.{Text, is}
use Rattle.registry_names.specs.Maps.{first_at}
use Rattle.registry_names.proofs.TextFacts.{is_true, is_self, is_sym}
use Rattle.registry_names.proofs.KeyFacts.{text_key}
use Rattle.registry_names.proofs.MapFacts.{first_at-kept}
use Rattle.registry_cache.specs.Caches.{Entries, Cache, cache, cost, texts, kept, kept_where, passed, entries_without, prefix, forgotten, is_large, without_large, asked, beside, with_text, with_room}

-- ---- what a test passes

passed_one : (e : Text × Text) (fs : Entries) (b : Bool) → option_to_list (cond b (Some e) None) ++ fs ≡ cond b (e ∷ fs) fs
passed_one e fs true = refl
passed_one e fs false = refl

pub passed_texts : (test : Text → Bool) (es : Entries) (o : Option (Text × Text)) → option_to_list (passed test o) ++ filter (λ e. test e.0) es ≡ filter (λ e. test e.0) (option_to_list o ++ es)
passed_texts test es None = refl
passed_texts test es (Some e) = passed_one e (filter (λ d. test d.0) es) (test e.0)

-- under a name that the test passes what was there, and under each other nothing
pub kept-kept_where : (s : Cache) (test : Text → Bool) (other : Text) → kept (kept_where s test) other ≡ cond (test other) (kept s other) None
kept-kept_where s test other =
    ap (λ (es : Entries). first_at is es other) (passed_texts test s.entries s.large) ∙ first_at-kept text_key (texts s) test other

filter_all : (es : Entries) → filter (λ e. true) es ≡ es
filter_all [] = refl
filter_all (e ∷ es) = ap (λ (fs : Entries). e ∷ fs) (filter_all es)

passed_all : (o : Option (Text × Text)) → passed (λ q. true) o ≡ o
passed_all None = refl
passed_all (Some e) = refl

pub kept_where-all : (s : Cache) → kept_where s (λ q. true) ≡ s
kept_where-all s = ap₂ (λ (es : Entries) (o : Option (Text × Text)). cache es o s.limit) (filter_all s.entries) (passed_all s.large)

filter_more : (g : Text × Text → Bool) (e : Text × Text) (a : Bool) (fs hs : Entries) → filter g fs ≡ hs → filter g (cond a (e ∷ fs) fs) ≡ cond (a && g e) (e ∷ hs) hs
filter_more g e true fs hs h = ap (λ (xs : Entries). cond (g e) (e ∷ xs) xs) h
filter_more g e false fs hs h = h

filter_twice : (f g : Text × Text → Bool) (es : Entries) → filter g (filter f es) ≡ filter (λ e. f e && g e) es
filter_twice f g [] = refl
filter_twice f g (e ∷ es) = filter_more g e (f e) (filter f es) (filter (λ x. f x && g x) es) (filter_twice f g es)

passed_more : (g : Text → Bool) (e : Text × Text) (a : Bool) → passed g (cond a (Some e) None) ≡ cond (a && g e.0) (Some e) None
passed_more g e true = refl
passed_more g e false = refl

passed_twice : (f g : Text → Bool) (o : Option (Text × Text)) → passed g (passed f o) ≡ passed (λ q. f q && g q) o
passed_twice f g None = refl
passed_twice f g (Some e) = passed_more g e (f e.0)

pub kept_where-twice : (s : Cache) (f g : Text → Bool) → kept_where (kept_where s f) g ≡ kept_where s (λ q. f q && g q)
kept_where-twice s f g =
    ap₂ (λ (es : Entries) (o : Option (Text × Text)). cache es o s.limit) (filter_twice (λ e. f e.0) (λ e. g e.0) s.entries) (passed_twice f g s.large)

pub kept_where-same : (s : Cache) (f g : Text → Bool) → ((q : Text) → f q ≡ g q) → kept_where s f ≡ kept_where s g
kept_where-same s f g same = λ i. kept_where s (λ q. same q i)

-- ---- what is forgotten

turned : {A : Type 0} (b : Bool) (o : Option A) → cond (not b) o None ≡ cond b None o
turned true o = refl
turned false o = refl

-- nothing is under the name, and under each other what was there
pub kept-forgotten : (s : Cache) (name other : Text) → kept (forgotten s name) other ≡ cond (is name other) None (kept s other)
kept-forgotten s name other =
    kept-kept_where s (λ q. not (is q name)) other ∙ turned (is other name) (kept s other) ∙ ap (λ b. cond b None (kept s other)) (is_sym other name)

-- the same of the entries alone
first_at-without : (name other : Text) (es : Entries) → first_at is (entries_without name es) other ≡ cond (is name other) None (first_at is es other)
first_at-without name other es =
    first_at-kept text_key es (λ q. not (is q name)) other ∙ turned (is other name) (first_at is es other)
    ∙ ap (λ b. cond b None (first_at is es other)) (is_sym other name)

pub none_under : (name : Text) (es : Entries) → first_at is (entries_without name es) name ≡ None
none_under name es = first_at-without name name es ∙ ap (λ b. cond b None (first_at is es name)) (is_self name)

no_large_in : (o : Option (Text × Text)) → passed (λ q. not (option_map_or (λ e. is q e.0) o false)) o ≡ None
no_large_in None = refl
no_large_in (Some e) = ap (λ b. cond (not b) (Some e) None) (is_self e.0)

-- the large text is gone with its name
pub no_large : (s : Cache) → (without_large s).large ≡ None
no_large s = no_large_in s.large

pub kept_small : (s : Cache) (other : Text) → kept (without_large s) other ≡ first_at is (without_large s).entries other
kept_small s other = ap (λ (o : Option (Text × Text)). first_at is (option_to_list o ++ (without_large s).entries) other) (no_large s)

-- what is left where the large text is taken out and what is under its name is forgotten
pub taken_some : (es : Entries) (large after : Option (Text × Text)) (limit : ℕ) (e : Text × Text) (name : Text) → large ≡ Some e → after ≡ None → name ≡ e.0
    → cache (entries_without name es) after limit ≡ without_large (cache es large limit)
taken_some es large after limit e name was is_now at =
    ap₂ (λ (q : Text) (o : Option (Text × Text)). cache (entries_without q es) o limit) at is_now
    ∙ ap (λ (o : Option (Text × Text)). cache (entries_without e.0 es) o limit) (sym (no_large_in (Some e)))
    ∙ ap (λ (o : Option (Text × Text)). without_large (cache es o limit)) (sym was)

pub taken_none : (es : Entries) (large after : Option (Text × Text)) (limit : ℕ) → large ≡ None → after ≡ None → cache es after limit ≡ without_large (cache es large limit)
taken_none es large after limit was is_now =
    ap (λ (o : Option (Text × Text)). cache es o limit) is_now ∙ sym (kept_where-all (cache es None limit))
    ∙ ap (λ (o : Option (Text × Text)). without_large (cache es o limit)) (sym was)

-- ---- behind a large text

-- it has another name
pub behind_other : (es : Entries) (large : Option (Text × Text)) (e : Text × Text) (k : Text) → large ≡ Some e → is e.0 k ≡ false → first_at is es k ≡ first_at is (option_to_list large ++ es) k
behind_other es large e k was f =
    ap (λ b. cond b (Some e.1) (first_at is es k)) (sym f) ∙ ap (λ (o : Option (Text × Text)). first_at is (option_to_list o ++ es) k) (sym was)

behind_same : (o : Option (Text × Text)) (es fs : Entries) (k : Text) → first_at is es k ≡ first_at is fs k → first_at is (option_to_list o ++ es) k ≡ first_at is (option_to_list o ++ fs) k
behind_same None es fs k h = h
behind_same (Some e) es fs k h = ap (cond (is e.0 k) (Some e.1)) h

same_first : (b : Bool) (v x : Text) (o p : Option Text) → cond b (Some v) o ≡ Some x → (o ≡ Some x → p ≡ Some x) → cond b (Some v) p ≡ Some x
same_first true v x o p h on = h
same_first false v x o p h on = on h

behind_some : (o : Option (Text × Text)) (es fs : Entries) (k x : Text) → (first_at is es k ≡ Some x → first_at is fs k ≡ Some x)
    → first_at is (option_to_list o ++ es) k ≡ Some x → first_at is (option_to_list o ++ fs) k ≡ Some x
behind_some None es fs k x on h = on h
behind_some (Some e) es fs k x on h = same_first (is e.0 k) e.1 x (first_at is es k) (first_at is fs k) h on

not_first : (b : Bool) (v : Text) (o p : Option Text) → cond b (Some v) o ≡ None → cond b (Some v) p ≡ p
not_first true v o p h = cc
not_first false v o p h = refl

-- where nothing is under the name, the large text hasn't it
pub behind_none : (o : Option (Text × Text)) (es fs : Entries) (k : Text) → first_at is (option_to_list o ++ es) k ≡ None → first_at is (option_to_list o ++ fs) k ≡ first_at is fs k
behind_none None es fs k h = refl
behind_none (Some e) es fs k h = not_first (is e.0 k) e.1 (first_at is es k) (first_at is fs k) h

-- ---- what is asked

back : (x : Text) (b : Bool) (o : Option Text) → (b ≡ true → o ≡ Some x) → cond b (Some x) (cond b None o) ≡ o
back x true o h = sym (h refl)
back x false o h = refl

pub asked_at : (name other : Text) (es : Entries) (o : Option Text) → first_at is es name ≡ o
    → first_at is (option_map_or (λ text. (name, text) ∷ entries_without name es) o es) other ≡ first_at is es other
asked_at name other es None h = refl
asked_at name other es (Some x) h =
    ap (cond (is name other) (Some x)) (first_at-without name other es)
    ∙ back x (is name other) (first_at is es other) (λ t. ap (first_at is es) (sym (is_true name other t)) ∙ h)

pub kept-asked : (s : Cache) (name other : Text) → kept (asked s name) other ≡ kept s other
kept-asked s name other = behind_same s.large (asked s name).entries s.entries other (asked_at name other s.entries (first_at is s.entries name) refl)

-- ---- a prefix

prefix_first : (e : Text × Text) (es fs : Entries) (k x : Text) (b : Bool) → first_at is (cond b (e ∷ fs) []) k ≡ Some x → (first_at is fs k ≡ Some x → first_at is es k ≡ Some x) → first_at is (e ∷ es) k ≡ Some x
prefix_first e es fs k x true h on = same_first (is e.0 k) e.1 x (first_at is fs k) (first_at is es k) h on
prefix_first e es fs k x false h on = cc

-- what is in a prefix is in the whole
first_at-prefix : (room : ℕ) (es : Entries) (k x : Text) → first_at is (prefix room es) k ≡ Some x → first_at is es k ≡ Some x
first_at-prefix room [] k x h = h
first_at-prefix room (e ∷ es) k x h = prefix_first e es (prefix (room - cost e) es) k x (nat_le (cost e) room) h (first_at-prefix (room - cost e) es k x)

none_in : (o p : Option Text) → ((x : Text) → o ≡ Some x → p ≡ Some x) → p ≡ None → o ≡ None
none_in None p on h = refl
none_in (Some x) p on h = let there = on x refl in cc

pub none_in_prefix : (room : ℕ) (es : Entries) (k : Text) → first_at is es k ≡ None → first_at is (prefix room es) k ≡ None
none_in_prefix room es k h = none_in _ _ (first_at-prefix room es k) h

-- ---- what stays of the others

where_some : (b : Bool) (o : Option Text) (x : Text) → cond b o None ≡ Some x → o ≡ Some x
where_some true o x h = h
where_some false o x h = cc

without_large_some : (s : Cache) (other x : Text) → kept (without_large s) other ≡ Some x → kept s other ≡ Some x
without_large_some s other x h = where_some (not (is_large s other)) (kept s other) x (sym (kept-kept_where s (λ q. not (is_large s q)) other) ∙ h)

module _ (s : Cache) (name text : Text) where
  beside_some : (other x : Text) → kept (beside s name text) other ≡ Some x → kept (forgotten s name) other ≡ Some x
  beside_some other x h =
      behind_some (forgotten s name).large (beside s name text).entries (forgotten s name).entries other x (first_at-prefix (s.limit - cost (name, text)) (forgotten s name).entries other x) h

  -- where the text has room, and where it has none
  abbrev pub small : Cache
  small = cache ((name, text) ∷ (beside s name text).entries) (beside s name text).large s.limit

  abbrev pub big : Cache
  big = cache (without_large (forgotten s name)).entries (Some (name, text)) s.limit

  pub none_kept : (other : Text) → is name other ≡ true → kept (forgotten s name) other ≡ None
  none_kept other t = kept-forgotten s name other ∙ ap (λ b. cond b None (kept s other)) t

  same_kept : (other : Text) → is name other ≡ false → kept (forgotten s name) other ≡ kept s other
  same_kept other f = kept-forgotten s name other ∙ ap (λ b. cond b None (kept s other)) f

  -- ---- what is put

  small_under : (other : Text) → is name other ≡ true → kept small other ≡ Some text
  small_under other t =
      behind_none (forgotten s name).large (forgotten s name).entries small.entries other (none_kept other t)
      ∙ ap (λ b. cond b (Some text) (first_at is (beside s name text).entries other)) t

  big_under : (other : Text) → is name other ≡ true → kept big other ≡ Some text
  big_under other t = ap (λ b. cond b (Some text) (first_at is (without_large (forgotten s name)).entries other)) t

  either_under : (b : Bool) → kept (cond b small big) name ≡ Some text
  either_under true = small_under name (is_self name)
  either_under false = big_under name (is_self name)

  -- the text is kept
  pub kept-with_text : kept (with_text s name text) name ≡ Some text
  kept-with_text = either_under (nat_le (cost (name, text)) s.limit)

  small_beside : (other : Text) → is name other ≡ false → kept small other ≡ kept (beside s name text) other
  small_beside other f =
      behind_same (forgotten s name).large small.entries (beside s name text).entries other (ap (λ b. cond b (Some text) (first_at is (beside s name text).entries other)) f)

  big_beside : (other : Text) → is name other ≡ false → kept big other ≡ kept (without_large (forgotten s name)) other
  big_beside other f =
      ap (λ b. cond b (Some text) (first_at is (without_large (forgotten s name)).entries other)) f ∙ sym (kept_small (forgotten s name) other)

  same_text : (x : Text) (o : Option Text) → o ≡ Some text → o ≡ Some x → x ≡ text
  same_text x o e h = cc

  small_right : (other x : Text) (b : Bool) → is name other ≡ b → kept small other ≡ Some x → MatchBool b (x ≡ text) (kept s other ≡ Some x)
  small_right other x true t h = same_text x (kept small other) (small_under other t) h
  small_right other x false f h = sym (same_kept other f) ∙ beside_some other x (sym (small_beside other f) ∙ h)

  big_right : (other x : Text) (b : Bool) → is name other ≡ b → kept big other ≡ Some x → MatchBool b (x ≡ text) (kept s other ≡ Some x)
  big_right other x true t h = same_text x (kept big other) (big_under other t) h
  big_right other x false f h = sym (same_kept other f) ∙ without_large_some (forgotten s name) other x (sym (big_beside other f) ∙ h)

  either_right : (other x : Text) (b : Bool) → kept (cond b small big) other ≡ Some x → MatchBool (is name other) (x ≡ text) (kept s other ≡ Some x)
  either_right other x true h = small_right other x (is name other) refl h
  either_right other x false h = big_right other x (is name other) refl h

  -- under the name nothing else is kept than the text, and under another name nothing else than was
  -- kept there
  pub put_keeps_right : (other x : Text) → kept (with_text s name text) other ≡ Some x → MatchBool (is name other) (x ≡ text) (kept s other ≡ Some x)
  put_keeps_right other x h = either_right other x (nat_le (cost (name, text)) s.limit) h

  -- what a name that was left out keeps is kept under another
  gone : (b : Bool) (x : Text) (w o : Option Text) → w ≡ cond b None o → w ≡ Some x → MatchBool b ⊥ (o ≡ Some x)
  gone true x w o e h = cc
  gone false x w o e h = sym e ∙ h

  room_some : (other x : Text) (b : Bool) → kept (cond b (beside s name text) (without_large (forgotten s name))) other ≡ Some x → kept (forgotten s name) other ≡ Some x
  room_some other x true h = beside_some other x h
  room_some other x false h = without_large_some (forgotten s name) other x h

  pub room_keeps_right : (other x : Text) → kept (with_room s name text) other ≡ Some x → MatchBool (is name other) ⊥ (kept s other ≡ Some x)
  room_keeps_right other x h =
      gone (is name other) x (kept (forgotten s name) other) (kept s other) (kept-forgotten s name other) (room_some other x (nat_le (cost (name, text)) s.limit) h)

  limit_either : (t u : Cache) (b : Bool) → t.limit ≡ s.limit → u.limit ≡ s.limit → (cond b t u).limit ≡ s.limit
  limit_either t u true e f = e
  limit_either t u false e f = f

  pub limit-with_text : (with_text s name text).limit ≡ s.limit
  limit-with_text = limit_either small big (nat_le (cost (name, text)) s.limit) refl refl

  pub limit-with_room : (with_room s name text).limit ≡ s.limit
  limit-with_room = limit_either (beside s name text) (without_large (forgotten s name)) (nat_le (cost (name, text)) s.limit) refl refl

  -- ---- a large text and the others

  is_small_of : (k other : Text) (v : Text) (b : Bool) → is other k ≡ false → option_map_or (λ (e : Text × Text). is other e.0) (cond b (Some (k, v)) None) false ≡ false
  is_small_of k other v true f = f
  is_small_of k other v false f = refl

  is_small_in : (other : Text) (o : Option (Text × Text)) → option_map_or (λ e. is other e.0) o false ≡ false → option_map_or (λ e. is other e.0) (passed (λ q. not (is q name)) o) false ≡ false
  is_small_in other None f = refl
  is_small_in other (Some e) f = is_small_of e.0 other e.1 (not (is e.0 name)) f

  pub large_leaves_others : (other : Text) → s.limit < cost (name, text) → is name other ≡ false → is_large s other ≡ false → kept (with_text s name text) other ≡ kept s other
  large_leaves_others other long f small_one =
      ap (λ b. kept (cond b small big) other) (lt-leb (cost (name, text)) s.limit long) ∙ big_beside other f
      ∙ kept-kept_where (forgotten s name) (λ q. not (is_large (forgotten s name) q)) other
      ∙ ap (λ b. cond (not b) (kept (forgotten s name) other) None) (is_small_in other s.large small_one)
      ∙ same_kept other f

  pub others_leave_large : cost (name, text) ≤ s.limit → (with_text s name text).large ≡ (forgotten s name).large
  others_leave_large fits = ap (λ b. (cond b small big).large) (le-leb (cost (name, text)) s.limit fits)
