-- The texts that are kept stay the packuments of what is stored.
use Rattle.registry_desk.proofs.Words.{◌≡◌, ◌⊎◌, inl, inr, ◌<◌, ◌+◌, ℕ, Bool, true, false, cond, not, ◌&&◌, ◌||◌, List, [], ◌∷◌, ◌++◌, length, map, take, get_or, MatchBool, Option, Some, None, Result}
use Rattle.registry_desk.proofs.Words.{Ok, Err, OnOk, OnErr, IfNone, IfSome, refl, sym, ap, ◌∙◌, subst, subst₂, list_any, map-append, take_more, Text, is, Cache, asked, forgotten, kept, with_room}
use Rattle.registry_desk.proofs.Words.{with_text, Change, change_of, HeldAreStored, all_stored, Contents, registry_of, changes_make, ArePackuments, IsPut, KeepsLatest, KeepsNoMore, LeavesTextsRight}
use Rattle.registry_desk.proofs.Words.{live_packument, without_touched, changes_view, View}
use Rattle.std.proofs.lemmas.List.Folds.{list_any-append}
use Rattle.registry_cache.proofs.CacheFacts.{kept-asked, kept-kept_where, kept_where-all, kept_where-same, kept_where-twice, limit-with_room, limit-with_text, put_keeps_right, room_keeps_right}
use Rattle.registry_names.proofs.TextFacts.{is_sym, is_true}
use Rattle.registry_rules.specs.declared.change.Change as declared
use Rattle.registry_desk.proofs.LivingFacts.{live_of_others}
use Rattle.registry_rows.proofs.ListFacts.{not-or}

-- ---- what is forgotten

found_where : (b : Bool) (o : Option Text) (text : Text) → cond (not b) o None ≡ Some text → (b ≡ false) × (o ≡ Some text)
found_where true o text h = (cc, cc)
found_where false o text h = (refl, h)

pub same_no_more : (s : Cache) → KeepsNoMore s s
same_no_more s = record { limit = refl; before = λ p text h. h }

or_none : (b : Bool) → (b || false) ≡ b
or_none true = refl
or_none false = refl

module _ (touches : Change → Text → Bool) where
  abbrev touched : List Change → Text → Bool
  touched cs q = list_any (λ change. touches change q) cs

  -- what is kept still isn't touched, and was kept
  pub untouched_found : (cs : List Change) (s : Cache) (q text : Text) → kept (without_touched touches cs s) q ≡ Some text → (touched cs q ≡ false) × (kept s q ≡ Some text)
  untouched_found cs s q text h = found_where (touched cs q) (kept s q) text (sym (kept-kept_where s (λ r. not (touched cs r)) q) ∙ h)

  pub untouched_no_more : (cs : List Change) (old new : Cache) → new ≡ without_touched touches cs old → KeepsNoMore old new
  untouched_no_more cs old new is = subst (KeepsNoMore old) (sym is) (record { limit = refl; before = λ q text h. (untouched_found cs old q text h).1 })

  module _ (s : Cache) where
    pub untouched_none : s ≡ without_touched touches [] s
    untouched_none = sym (kept_where-all s)

    module _ (change : Change) where
      -- what a change touches is forgotten
      pub forgets_one : (name : Text) → ((q : Text) → touches change q ≡ is name q) → forgotten s name ≡ without_touched touches (change ∷ []) s
      forgets_one name touch = kept_where-same s (λ q. not (is q name)) (λ q. not (touched (change ∷ []) q)) (λ q. ap not (is_sym q name ∙ sym (touch q) ∙ sym (or_none (touches change q))))

      -- a change touches nothing
      pub forgets_none : ((q : Text) → touches change q ≡ false) → s ≡ without_touched touches (change ∷ []) s
      forgets_none none = untouched_none ∙ kept_where-same s (λ q. true) (λ q. not (touched (change ∷ []) q)) (λ q. ap not (sym (or_none (touches change q) ∙ none q)))

  touched_then : (cs : List Change) (c : Change) (s : Cache) → without_touched touches (c ∷ []) (without_touched touches cs s) ≡ without_touched touches (cs ++ c ∷ []) s
  touched_then cs c s =
      kept_where-twice s (λ q. not (touched cs q)) (λ q. not (touched (c ∷ []) q))
      ∙ kept_where-same s (λ q. not (touched cs q) && not (touched (c ∷ []) q)) (λ q. not (touched (cs ++ c ∷ []) q))
      (λ q. not-or (touched cs q) (touched (c ∷ []) q) ∙ ap not (sym (list_any-append (λ d. touches d q) cs (c ∷ []))))

  module _ (xs : List declared.Change) (i : ℕ) (x : declared.Change) (below : i < length xs) (is_next : x ≡ get_or xs i x) where
    more : map change_of (take i xs) ++ change_of x ∷ [] ≡ map change_of (take (i + 1) xs)
    more = sym (map-append change_of (take i xs) (x ∷ [])) ∙ ap (map change_of) (ap (λ q. take i xs ++ q ∷ []) is_next ∙ sym (take_more xs i x below))

    -- what one more change touches is forgotten
    pub forgets_next : (old mid new : Cache) → mid ≡ without_touched touches (map change_of (take i xs)) old → new ≡ without_touched touches (change_of x ∷ []) mid
        → new ≡ without_touched touches (map change_of (take (i + 1) xs)) old
    forgets_next old mid new so_far here =
        here ∙ ap (without_touched touches (change_of x ∷ [])) so_far ∙ touched_then (map change_of (take i xs)) (change_of x) old ∙ ap (λ cs. without_touched touches cs old) more

-- ---- what is kept of an answer

either_case : (o : Option Text) {P Q R : Type 0} → IfNone o P → IfSome o (λ _. Q) → (P → R) → (Q → R) → R
either_case None p q on_none on_some = on_none p
either_case (Some found) p q on_none on_some = on_some q

module _ (name text : Text) (s : Cache) where
  -- whether it could be put or not
  is_put : {E : Type 0} (result : Result (Unit {0}) E) (new : Cache) → OnOk result (new ≡ with_text s name text) → OnErr result (new ≡ with_room s name text) → IsPut name text s new
  is_put (Ok done) new ok err = inl ok
  is_put (Err e) new ok err = inr (inl err)

-- the same, where name and text are written otherwise
pub is_put_as : {E : Type 0} (name text called found : Text) (result : Result (Unit {0}) E) (s new : Cache) → called ≡ name → found ≡ text
    → OnOk result (new ≡ with_text s called found) → OnErr result (new ≡ with_room s called found) → IsPut name text s new
is_put_as name text called found result s new same_name same_text ok err =
    subst₂ (λ (n t : Text). IsPut n t s new) same_name same_text (is_put called found s result new ok err)

-- ---- nothing is kept but what was, and the text under the name

other_found : (b : Bool) (P : Type 0) → MatchBool b ⊥ P → P
other_found true P h = absurd h
other_found false P h = h

module _ (name text : Text) where
  pub record HoldsMore (old new : Cache) : Type 0 where
    pub same_limit : new.limit ≡ old.limit
    pub found : (p found : Text) → kept new p ≡ Some found → (kept old p ≡ Some found) ⊎ ((name ≡ p) × (text ≡ found))

  more_same : (s : Cache) → HoldsMore s s
  more_same s = record { same_limit = refl; found = λ p found h. inl h }

  more_asked : (s : Cache) → HoldsMore s (asked s name)
  more_asked s = record { same_limit = refl; found = λ p found h. inl (sym (kept-asked s name p) ∙ h) }

  put_or_before : (s : Cache) (p found : Text) (b : Bool) → is name p ≡ b → MatchBool b (found ≡ text) (kept s p ≡ Some found) → (kept s p ≡ Some found) ⊎ ((name ≡ p) × (text ≡ found))
  put_or_before s p found true t h = inr (is_true name p t, sym h)
  put_or_before s p found false t h = inl h

  more_put : (s : Cache) → HoldsMore s (with_text s name text)
  more_put s = record {
    same_limit = limit-with_text s name text;
    found = λ p found h. put_or_before s p found (is name p) refl (put_keeps_right s name text p found h);
  }

  more_room : (s : Cache) → HoldsMore s (with_room s name text)
  more_room s = record { same_limit = limit-with_room s name text; found = λ p found h. inl (other_found (is name p) _ (room_keeps_right s name text p found h)) }

  more_either : (old new : Cache) → IsPut name text old new → HoldsMore old new
  more_either old new (inl put) = subst (HoldsMore old) (sym put) (more_put old)
  more_either old new (inr (inl room)) = subst (HoldsMore old) (sym room) (more_room old)
  more_either old new (inr (inr same)) = subst (HoldsMore old) (sym same) (more_same old)

  pub more_kept : (old new : Cache) → KeepsLatest name text old new → HoldsMore old new
  more_kept old new keeps = either_case (kept old name) keeps.put keeps.again (more_either old new) (λ is. subst (HoldsMore old) (sym is) (more_asked old))

-- ---- what changes make of the texts that are kept

made_still : (view : View) (c : Contents) (cs : List Change) (cache : Cache) → HeldAreStored c → (p text : Text) → kept (without_touched (changes_view view) cs cache) p ≡ Some text → live_packument view (registry_of (all_stored cs c)) p ≡ live_packument view (registry_of c) p
made_still view c cs cache held p text h =
    ap (λ S. live_packument view S p) (changes_make cs c held)
    ∙ live_of_others view (registry_of c) cs p (untouched_found (changes_view view) cs cache p text h).0

-- ---- what becomes of the texts that are kept

pub texts_leave : (view : View) (c d : Contents) (cs : List Change) (old new : Cache) → HeldAreStored c → d ≡ all_stored cs c → new ≡ without_touched (changes_view view) cs old → LeavesTextsRight view c d new
texts_leave view c d cs old new held is left p text h =
    ap (λ (e : Contents). live_packument view (registry_of e) p) is ∙ made_still view c cs old held p text (ap (λ (s : Cache). kept s p) (sym left) ∙ h)

-- what is refused changes nothing
pub texts_refused : (view : View) (c d : Contents) (cache : Cache) → d ≡ c → LeavesTextsRight view c d cache
texts_refused view c d cache same p text h = ap (λ (e : Contents). live_packument view (registry_of e) p) same

-- ---- what is right after a request

-- nothing was stored otherwise, and no text came
pub texts_unchanged : (view : View) (c d : Contents) (was is_now : Cache) → d ≡ c → KeepsNoMore was is_now → ArePackuments view c was → ArePackuments view d is_now
texts_unchanged view c d was is_now same keeps are =
    record { right = λ p text h. ap (λ (e : Contents). live_packument view (registry_of e) p) same ∙ are.right p text (keeps.before p text h) }

-- the request was answered
pub texts_answered : (view : View) (c d : Contents) (was is_now : Cache) → LeavesTextsRight view c d is_now → KeepsNoMore was is_now → ArePackuments view c was → ArePackuments view d is_now
texts_answered view c d was is_now leaves keeps are = record { right = λ p text h. leaves p text h ∙ are.right p text (keeps.before p text h) }

-- what is replied is kept
pub texts_kept : (view : View) (d : Contents) (name text : Text) (was is_now : Cache) → ArePackuments view d was → live_packument view (registry_of d) name ≡ Some text → KeepsLatest name text was is_now → ArePackuments view d is_now
texts_kept view d name text was is_now right shown keeps =
    let more = more_kept name text was is_now keeps in
    record {
      right = λ p found h. elim (more.found p found h) [
        | inl before ↦ right.right p found before
        | inr same ↦ ap (live_packument view (registry_of d)) (sym same.0) ∙ shown ∙ ap (λ (t : Text). Some t) same.1
      ];
    }
