-- A list of tags that is read byte by byte is one of the grammar, and the other way round.
use Rattle.std.proofs.Common.{◌≡◌, ◌==◌, ◌<◌, ◌≤◌, ◌&&◌, ◌||◌, ◌⊎◌, ◌↔◌, ◌∙◌, ℕ, suc, Bool, true, false, not, cond, List, [], ◌∷◌, ◌++◌, length, take, drop, Some, None, refl, sym, ap, subst, inl, inr, arith, append_assoc, append-nil, codes, bytes_eq, IsTrue}
use Rattle.std.specs.List.{list_all, take_while}
use Rattle.std.proofs.lemmas.List.{length-drop, take-append-drop}
use Rattle.std.proofs.lemmas.List.Sums.{take_while-cons}
use Rattle.std.proofs.lemmas.Bool.{and_from, and_parts, cond-false, cond-true, eqb-true, false≢true, or_left, or_right}
use Rattle.std.proofs.lemmas.Slice.Eq.{bytes_eq-Decides}
use Rattle.httparse.specs.Grammar.{skip_ows}
use Rattle.registry_wire.specs.EntityTags.{Element, Item, Matches, Names, NamesTag, SomeMatches, any, comma, element_text, is_blank, is_element, is_etagc, is_item, is_opaque, item_text, items_text, listed, nothing, quote, quoted, strong, weak}
use Rattle.registry_wire.specs.TagReading.{BeginsWithOpaque, BeginsWithTag, IsNoList, ReadAlike, Spot, after_byte, before, begins_solid, behind, is_empty, marked, names, names_tag, reads, slashed, within}
use Rattle.registry_wire.specs.declared.wanted.FieldValue.{FieldValue}
use Rattle.registry_wire.specs.declared.wanted.FieldValue.TheVariants.{Absent, Once, Repeated}

-- what follows from a test, and from its failure
by-test : {P : Type 0} (q x y : Bool) → cond q x y ≡ true → (q ≡ true → x ≡ true → P) → (q ≡ false → y ≡ true → P) → P
by-test true x y e yes_case no_case = yes_case refl e
by-test false x y e yes_case no_case = no_case refl e

-- one of two tests passes
by-either : (x y : Bool) → (x || y) ≡ true → (x ≡ true) ⊎ (y ≡ true)
by-either true y e = inl refl
by-either false y e = inr e

-- ---- what is read is in the grammar

-- a list of tags, and one of them matches if none did before
record IsRest (tag : List ℕ) (found : Bool) (bytes : List ℕ) : Type 0 where
  pub item : Item
  pub items : List Item
  pub each : list_all is_item (item ∷ items) ≡ true
  pub is : bytes ≡ items_text item items
  pub matched : (found ≡ true) ⊎ SomeMatches tag (item ∷ items)

-- behind a tag: white space, and then the end or a comma and a list
record IsBehind (tag : List ℕ) (found : Bool) (bytes : List ℕ) : Type 0 where
  pub after : List ℕ
  pub white : list_all is_blank after ≡ true
  pub follows : ((bytes ≡ after) × (found ≡ true)) ⊎ ((rest : List ℕ) × (bytes ≡ after ++ comma ∷ rest) × IsRest tag found rest)

-- within an opaque text: what is left of it, its quote, and what is behind
record IsWithin (tag : List ℕ) (found : Bool) (seen bytes : List ℕ) : Type 0 where
  pub opaque : List ℕ
  pub tail : List ℕ
  pub passes : is_opaque opaque ≡ true
  pub is : bytes ≡ opaque ++ quote ∷ tail
  pub ends : IsBehind tag (found || bytes_eq (seen ++ opaque) tag) tail

abbrev IsAfter : List ℕ → Bool → Spot → List ℕ → Type 0
IsAfter tag found before bytes = IsRest tag found bytes
IsAfter tag found marked bytes = (rest : List ℕ) × (bytes ≡ 47 ∷ quote ∷ rest) × IsWithin tag found [] rest
IsAfter tag found slashed bytes = (rest : List ℕ) × (bytes ≡ quote ∷ rest) × IsWithin tag found [] rest
IsAfter tag found (within seen) bytes = IsWithin tag found seen bytes
IsAfter tag found behind bytes = IsBehind tag found bytes

-- an item in which nothing stands
gap : Item
gap = record { before = []; element = nothing; after = [] }

rest-end : (tag : List ℕ) (found : Bool) → found ≡ true → IsRest tag found []
unfolding gap
rest-end tag found e = record { item = gap; items = []; each = refl; is = refl; matched = inl e }

matched-later : (tag : List ℕ) (found : Bool) (i : Item) (is : List Item) → (found ≡ true) ⊎ SomeMatches tag is → (found ≡ true) ⊎ SomeMatches tag (i ∷ is)
matched-later tag found i is (inl e) = inl e
matched-later tag found i is (inr m) = inr (inr m)

rest-comma : (tag : List ℕ) (found : Bool) (bytes : List ℕ) → IsRest tag found bytes → IsRest tag found (comma ∷ bytes)
unfolding gap
rest-comma tag found bytes r = record {
  item = gap;
  items = r.item ∷ r.items;
  each = r.each;
  is = ap (λ (l : List ℕ). comma ∷ l) r.is;
  matched = matched-later tag found gap (r.item ∷ r.items) r.matched;
}

-- with one byte more before its first element
led : ℕ → Item → Item
led b i = record { before = b ∷ i.before; element = i.element; after = i.after }

led-text : (b : ℕ) (i : Item) (is : List Item) → b ∷ items_text i is ≡ items_text (led b i) is
unfolding led
led-text b i [] = refl
led-text b i (j ∷ js) = refl

led-each : (b : ℕ) (i : Item) (is : List Item) → is_blank b ≡ true → list_all is_item (i ∷ is) ≡ true → list_all is_item (led b i ∷ is) ≡ true
unfolding led
led-each b i is blank each = rw blank each

rest-blank : (tag : List ℕ) (found : Bool) (b : ℕ) (bytes : List ℕ) → is_blank b ≡ true → IsRest tag found bytes → IsRest tag found (b ∷ bytes)
unfolding led
rest-blank tag found b bytes blank r = record {
  item = led b r.item;
  items = r.items;
  each = led-each b r.item r.items blank r.each;
  is = ap (λ (l : List ℕ). b ∷ l) r.is ∙ led-text b r.item r.items;
  matched = r.matched;
}

-- what matched before or now
matched-now : (tag opaque : List ℕ) (found : Bool) (i : Item) (is : List Item) → (opaque ≡ tag → Matches tag i.element) → (found || bytes_eq opaque tag) ≡ true → (found ≡ true) ⊎ SomeMatches tag (i ∷ is)
matched-now tag opaque true i is same e = inl refl
matched-now tag opaque false i is same e = inr (inl (same ((bytes_eq-Decides opaque tag).0 e)))

matched-on : (tag opaque : List ℕ) (found : Bool) (i : Item) (is : List Item) → (opaque ≡ tag → Matches tag i.element) → ((found || bytes_eq opaque tag) ≡ true) ⊎ SomeMatches tag is → (found ≡ true) ⊎ SomeMatches tag (i ∷ is)
matched-on tag opaque found i is same (inl e) = matched-now tag opaque found i is same e
matched-on tag opaque found i is same (inr m) = inr (inr m)

-- a tag with white space behind it
shown : Element → List ℕ → Item
shown e after = record { before = []; element = e; after = after }

shown-each : (e : Element) (after : List ℕ) → is_element e ≡ true → list_all is_blank after ≡ true → is_item (shown e after) ≡ true
unfolding shown
shown-each e after form white = and_from (is_element e) (list_all is_blank after) form white

spelled : (mark opaque tail rest : List ℕ) → tail ≡ rest → mark ++ (quote ∷ (opaque ++ quote ∷ tail)) ≡ (mark ++ quoted opaque) ++ rest
spelled mark opaque tail rest e =
    ap (λ (l : List ℕ). mark ++ (quote ∷ (opaque ++ quote ∷ l))) e
    ∙ ap (λ (l : List ℕ). mark ++ (quote ∷ l)) (sym (append_assoc opaque (quote ∷ []) rest))
    ∙ sym (append_assoc mark (quoted opaque) rest)

rest-of-tag : (tag opaque mark : List ℕ) (e : Element) (found : Bool) (bytes tail after : List ℕ) → element_text e ≡ mark ++ quoted opaque → is_element e ≡ true → (opaque ≡ tag → Matches tag e)
    → bytes ≡ mark ++ (quote ∷ (opaque ++ quote ∷ tail)) → list_all is_blank after ≡ true
    → ((tail ≡ after) × ((found || bytes_eq opaque tag) ≡ true)) ⊎ ((rest : List ℕ) × (tail ≡ after ++ comma ∷ rest) × IsRest tag (found || bytes_eq opaque tag) rest) → IsRest tag found bytes
unfolding shown
rest-of-tag tag opaque mark e found bytes tail after text form same is white (inl (last, matched)) = record {
  item = shown e after;
  items = [];
  each = and_from (is_item (shown e after)) true (shown-each e after form white) refl;
  is = is ∙ spelled mark opaque tail after last ∙ ap (λ (l : List ℕ). l ++ after) (sym text);
  matched = matched-now tag opaque found (shown e after) [] same matched;
}
rest-of-tag tag opaque mark e found bytes tail after text form same is white (inr (rest, more, r)) = record {
  item = shown e after;
  items = r.item ∷ r.items;
  each = and_from (is_item (shown e after)) (list_all is_item (r.item ∷ r.items)) (shown-each e after form white) r.each;
  is = is ∙ spelled mark opaque tail (after ++ comma ∷ rest) more ∙ ap (λ (l : List ℕ). l ++ (after ++ comma ∷ rest)) (sym text)
      ∙ ap (λ (l : List ℕ). element_text e ++ (after ++ comma ∷ l)) r.is
      ∙ sym (append_assoc (element_text e) after (comma ∷ items_text r.item r.items));
  matched = matched-on tag opaque found (shown e after) (r.item ∷ r.items) same r.matched;
}

-- a tag, and what is behind it
tagged : (tag opaque mark : List ℕ) (e : Element) (found : Bool) (bytes tail : List ℕ) → element_text e ≡ mark ++ quoted opaque → is_element e ≡ true → (opaque ≡ tag → Matches tag e)
    → bytes ≡ mark ++ (quote ∷ (opaque ++ quote ∷ tail)) → IsBehind tag (found || bytes_eq opaque tag) tail → IsRest tag found bytes
tagged tag opaque mark e found bytes tail text form same is ends = rest-of-tag tag opaque mark e found bytes tail ends.after text form same is ends.white ends.follows

rest-strong : (tag : List ℕ) (found : Bool) (bytes : List ℕ) → IsWithin tag found [] bytes → IsRest tag found (quote ∷ bytes)
rest-strong tag found bytes w = tagged tag w.opaque [] (strong w.opaque) found (quote ∷ bytes) w.tail refl w.passes (λ e. e) (ap (λ (l : List ℕ). quote ∷ l) w.is) w.ends

rest-weak : (tag : List ℕ) (found : Bool) (bytes rest : List ℕ) → bytes ≡ 47 ∷ quote ∷ rest → IsWithin tag found [] rest → IsRest tag found (87 ∷ bytes)
rest-weak tag found bytes rest is w = tagged tag w.opaque (codes "W/") (weak w.opaque) found (87 ∷ bytes) w.tail refl w.passes (λ e. e) (ap (λ (l : List ℕ). 87 ∷ l) (is ∙ ap (λ (l : List ℕ). 47 ∷ quote ∷ l) w.is)) w.ends

within-end : (tag : List ℕ) (found : Bool) (seen bytes : List ℕ) → IsBehind tag (found || bytes_eq seen tag) bytes → IsWithin tag found seen (quote ∷ bytes)
within-end tag found seen bytes ends = record {
  opaque = [];
  tail = bytes;
  passes = refl;
  is = refl;
  ends = subst (λ (l : List ℕ). IsBehind tag (found || bytes_eq l tag) bytes) (sym (append-nil seen)) ends;
}

within-on : (tag : List ℕ) (found : Bool) (seen : List ℕ) (b : ℕ) (bytes : List ℕ) → is_etagc b ≡ true → IsWithin tag found (seen ++ b ∷ []) bytes → IsWithin tag found seen (b ∷ bytes)
within-on tag found seen b bytes passes w = record {
  opaque = b ∷ w.opaque;
  tail = w.tail;
  passes = and_from (is_etagc b) (is_opaque w.opaque) passes w.passes;
  is = ap (λ (l : List ℕ). b ∷ l) w.is;
  ends = subst (λ (l : List ℕ). IsBehind tag (found || bytes_eq l tag) w.tail) (append_assoc seen (b ∷ []) w.opaque) w.ends;
}

behind-end : (tag : List ℕ) (found : Bool) → found ≡ true → IsBehind tag found []
behind-end tag found e = record { after = []; white = refl; follows = inl (refl, e) }

behind-comma : (tag : List ℕ) (found : Bool) (bytes : List ℕ) → IsRest tag found bytes → IsBehind tag found (comma ∷ bytes)
behind-comma tag found bytes r = record { after = []; white = refl; follows = inr (bytes, refl, r) }

follows-on : (tag after : List ℕ) (found : Bool) (b : ℕ) (bytes : List ℕ) → ((bytes ≡ after) × (found ≡ true)) ⊎ ((rest : List ℕ) × (bytes ≡ after ++ comma ∷ rest) × IsRest tag found rest)
    → ((b ∷ bytes ≡ b ∷ after) × (found ≡ true)) ⊎ ((rest : List ℕ) × (b ∷ bytes ≡ (b ∷ after) ++ comma ∷ rest) × IsRest tag found rest)
follows-on tag after found b bytes (inl (last, e)) = inl (ap (λ (l : List ℕ). b ∷ l) last, e)
follows-on tag after found b bytes (inr (rest, more, r)) = inr (rest, ap (λ (l : List ℕ). b ∷ l) more, r)

behind-blank : (tag : List ℕ) (found : Bool) (b : ℕ) (bytes : List ℕ) → is_blank b ≡ true → IsBehind tag found bytes → IsBehind tag found (b ∷ bytes)
behind-blank tag found b bytes blank x = record {
  after = b ∷ x.after;
  white = and_from (is_blank b) (list_all is_blank x.after) blank x.white;
  follows = follows-on tag x.after found b bytes x.follows;
}

rest-empty : (tag : List ℕ) (found : Bool) (b : ℕ) (bytes : List ℕ) → (is_blank b ≡ true) ⊎ ((b == comma) ≡ true) → IsRest tag found bytes → IsRest tag found (b ∷ bytes)
rest-empty tag found b bytes (inl blank) r = rest-blank tag found b bytes blank r
rest-empty tag found b bytes (inr same) r = subst (λ (c : ℕ). IsRest tag found (c ∷ bytes)) (sym (eqb-true b comma same)) (rest-comma tag found bytes r)

sound : (tag : List ℕ) (found : Bool) (spot : Spot) (bytes : List ℕ) → reads tag found spot bytes ≡ true → IsAfter tag found spot bytes
sound tag found before [] e = rest-end tag found e
sound tag found before (b ∷ bs) e =
    by-test (is_empty b) _ _ e (λ empty on. rest-empty tag found b bs (by-either (is_blank b) (b == comma) empty) (sound tag found before bs on))
    (λ _ e2. by-test (b == quote) _ _ e2
    (λ same on. subst (λ (c : ℕ). IsRest tag found (c ∷ bs)) (sym (eqb-true b quote same)) (rest-strong tag found bs (sound tag found (within []) bs on)))
    (λ _ e3. by-test (b == 87) _ _ e3
    (λ same on. let x = sound tag found marked bs on in subst (λ (c : ℕ). IsRest tag found (c ∷ bs)) (sym (eqb-true b 87 same)) (rest-weak tag found bs x.0 x.1 x.2))
    (λ _ never. absurd (false≢true never))))
sound tag found marked [] e = absurd (false≢true e)
sound tag found marked (b ∷ bs) e =
    by-test (b == 47) _ _ e
    (λ same on. let x = sound tag found slashed bs on in (x.0, ap (λ (c : ℕ). c ∷ bs) (eqb-true b 47 same) ∙ ap (λ (l : List ℕ). 47 ∷ l) x.1, x.2))
    (λ _ never. absurd (false≢true never))
sound tag found slashed [] e = absurd (false≢true e)
sound tag found slashed (b ∷ bs) e =
    by-test (b == quote) _ _ e
    (λ same on. (bs, ap (λ (c : ℕ). c ∷ bs) (eqb-true b quote same), sound tag found (within []) bs on))
    (λ _ never. absurd (false≢true never))
sound tag found (within seen) [] e = absurd (false≢true e)
sound tag found (within seen) (b ∷ bs) e =
    by-test (b == quote) _ _ e
    (λ same on. subst (λ (c : ℕ). IsWithin tag found seen (c ∷ bs)) (sym (eqb-true b quote same)) (within-end tag found seen bs (sound tag (found || bytes_eq seen tag) behind bs on)))
    (λ _ e2. by-test (is_etagc b) _ _ e2
    (λ passes on. within-on tag found seen b bs passes (sound tag found (within (seen ++ b ∷ [])) bs on))
    (λ _ never. absurd (false≢true never)))
sound tag found behind [] e = behind-end tag found e
sound tag found behind (b ∷ bs) e =
    by-test (is_blank b) _ _ e
    (λ blank on. behind-blank tag found b bs blank (sound tag found behind bs on))
    (λ _ e2. by-test (b == comma) _ _ e2
    (λ same on. subst (λ (c : ℕ). IsBehind tag found (c ∷ bs)) (sym (eqb-true b comma same)) (behind-comma tag found bs (sound tag found before bs on)))
    (λ _ never. absurd (false≢true never)))

-- ---- what is in the grammar is read

-- an empty element
reads-empty : (tag : List ℕ) (found : Bool) (b : ℕ) (bs : List ℕ) → is_empty b ≡ true → reads tag found before (b ∷ bs) ≡ reads tag found before bs
reads-empty tag found b bs e = cond-true (is_empty b) _ _ e

reads-before : (tag : List ℕ) (found : Bool) (ws bs : List ℕ) → list_all is_blank ws ≡ true → reads tag found before (ws ++ bs) ≡ reads tag found before bs
reads-before tag found [] bs white = refl
reads-before tag found (w ∷ ws) bs white =
    let (blank, more) = and_parts (is_blank w) (list_all is_blank ws) white in
    reads-empty tag found w (ws ++ bs) (or_left (is_blank w) (w == comma) blank) ∙ reads-before tag found ws bs more

reads-behind : (tag : List ℕ) (found : Bool) (ws bs : List ℕ) → list_all is_blank ws ≡ true → reads tag found behind (ws ++ bs) ≡ reads tag found behind bs
reads-behind tag found [] bs white = refl
reads-behind tag found (w ∷ ws) bs white =
    let (blank, more) = and_parts (is_blank w) (list_all is_blank ws) white in
    cond-true (is_blank w) _ _ blank ∙ reads-behind tag found ws bs more

-- a byte of an opaque text is no quote
quote-or : (t : Bool) (b : ℕ) → is_etagc b ≡ true → (b == quote) ≡ t → (b == quote) ≡ false
quote-or true b passes same = absurd (false≢true (sym (ap is_etagc (eqb-true b quote same)) ∙ passes))
quote-or false b passes same = same

not-quote : (b : ℕ) → is_etagc b ≡ true → (b == quote) ≡ false
not-quote b passes = quote-or (b == quote) b passes refl

reads-within : (tag : List ℕ) (found : Bool) (seen opaque bs : List ℕ) → is_opaque opaque ≡ true
    → reads tag found (within seen) (opaque ++ quote ∷ bs) ≡ reads tag (found || bytes_eq (seen ++ opaque) tag) behind bs
reads-within tag found seen [] bs passes = ap (λ (l : List ℕ). reads tag (found || bytes_eq l tag) behind bs) (sym (append-nil seen))
reads-within tag found seen (b ∷ opaque) bs passes =
    let (first, more) = and_parts (is_etagc b) (is_opaque opaque) passes in
    cond-false (b == quote) _ _ (not-quote b first) ∙ cond-true (is_etagc b) _ _ first
    ∙ reads-within tag found (seen ++ b ∷ []) opaque bs more
    ∙ ap (λ (l : List ℕ). reads tag (found || bytes_eq l tag) behind bs) (append_assoc seen (b ∷ []) opaque)

-- the element matches
abbrev matches : List ℕ → Element → Bool
matches tag nothing = false
matches tag (strong opaque) = bytes_eq opaque tag
matches tag (weak opaque) = bytes_eq opaque tag

-- the spot behind an element
abbrev spot_behind : Element → Spot
spot_behind nothing = before
spot_behind (strong opaque) = behind
spot_behind (weak opaque) = behind

or-none : (b : Bool) → b ≡ (b || false)
or-none true = refl
or-none false = refl

reads-element : (tag : List ℕ) (found : Bool) (e : Element) (bs : List ℕ) → is_element e ≡ true
    → reads tag found before (element_text e ++ bs) ≡ reads tag (found || matches tag e) (spot_behind e) bs
reads-element tag found nothing bs form = ap (λ (t : Bool). reads tag t before bs) (or-none found)
reads-element tag found (strong opaque) bs form =
    ap (λ (l : List ℕ). reads tag found (within []) l) (append_assoc opaque (quote ∷ []) bs) ∙ reads-within tag found [] opaque bs form
reads-element tag found (weak opaque) bs form =
    ap (λ (l : List ℕ). reads tag found (within []) l) (append_assoc opaque (quote ∷ []) bs) ∙ reads-within tag found [] opaque bs form

reads-white : (tag : List ℕ) (found : Bool) (e : Element) (ws bs : List ℕ) → list_all is_blank ws ≡ true
    → reads tag found (spot_behind e) (ws ++ bs) ≡ reads tag found (spot_behind e) bs
reads-white tag found nothing ws bs white = reads-before tag found ws bs white
reads-white tag found (strong opaque) ws bs white = reads-behind tag found ws bs white
reads-white tag found (weak opaque) ws bs white = reads-behind tag found ws bs white

three-and : (a b c d : List ℕ) → a ++ b ++ c ++ d ≡ a ++ (b ++ (c ++ d))
three-and a b c d = append_assoc (a ++ b) c d ∙ append_assoc a b (c ++ d)

reads-item : (tag : List ℕ) (found : Bool) (i : Item) (bs : List ℕ) → is_item i ≡ true
    → reads tag found before (item_text i ++ bs) ≡ reads tag (found || matches tag i.element) (spot_behind i.element) bs
reads-item tag found i bs form =
    let (front, more) = and_parts (list_all is_blank i.before) (is_element i.element && list_all is_blank i.after) form in
    let (element, white) = and_parts (is_element i.element) (list_all is_blank i.after) more in
    ap (λ (l : List ℕ). reads tag found before l) (three-and i.before (element_text i.element) i.after bs)
    ∙ reads-before tag found i.before (element_text i.element ++ (i.after ++ bs)) front
    ∙ reads-element tag found i.element (i.after ++ bs) element
    ∙ reads-white tag (found || matches tag i.element) i.element i.after bs white

reads-end : (tag : List ℕ) (found : Bool) (e : Element) → reads tag found (spot_behind e) [] ≡ found
reads-end tag found nothing = refl
reads-end tag found (strong opaque) = refl
reads-end tag found (weak opaque) = refl

reads-comma : (tag : List ℕ) (found : Bool) (e : Element) (bs : List ℕ) → reads tag found (spot_behind e) (comma ∷ bs) ≡ reads tag found before bs
reads-comma tag found nothing bs = refl
reads-comma tag found (strong opaque) bs = refl
reads-comma tag found (weak opaque) bs = refl

abbrev some_matches : List ℕ → List Item → Bool
some_matches tag [] = false
some_matches tag (i ∷ is) = matches tag i.element || some_matches tag is

or-or : (a b c : Bool) → ((a || b) || c) ≡ (a || (b || c))
or-or true b c = refl
or-or false b c = refl

reads-items : (tag : List ℕ) (found : Bool) (i : Item) (is : List Item) → list_all is_item (i ∷ is) ≡ true → reads tag found before (items_text i is) ≡ (found || some_matches tag (i ∷ is))
reads-items tag found i [] each =
    let (form, _) = and_parts (is_item i) true each in
    ap (λ (l : List ℕ). reads tag found before l) (sym (append-nil (item_text i)))
    ∙ reads-item tag found i [] form ∙ reads-end tag (found || matches tag i.element) i.element ∙ ap (λ (t : Bool). found || t) (or-none (matches tag i.element))
reads-items tag found i (j ∷ js) each =
    let (form, more) = and_parts (is_item i) (list_all is_item (j ∷ js)) each in
    reads-item tag found i (comma ∷ items_text j js) form ∙ reads-comma tag (found || matches tag i.element) i.element (items_text j js)
    ∙ reads-items tag (found || matches tag i.element) j js more ∙ or-or found (matches tag i.element) (some_matches tag (j ∷ js))

match-tested : (tag : List ℕ) (e : Element) → Matches tag e → matches tag e ≡ true
match-tested tag nothing m = absurd m
match-tested tag (strong opaque) m = (bytes_eq-Decides opaque tag).1 m
match-tested tag (weak opaque) m = (bytes_eq-Decides opaque tag).1 m

some-tested : (tag : List ℕ) (is : List Item) → SomeMatches tag is → some_matches tag is ≡ true
some-tested tag [] m = absurd m
some-tested tag (i ∷ is) (inl m) = or_left (matches tag i.element) (some_matches tag is) (match-tested tag i.element m)
some-tested tag (i ∷ is) (inr m) = or_right (matches tag i.element) (some_matches tag is) (some-tested tag is m)

-- ---- the parts of a list, as the code finds them

after-tested : (t : Bool) (byte b : ℕ) (bs rest : List ℕ) → (b == byte) ≡ t → cond t (Some bs) None ≡ Some rest → b ∷ bs ≡ byte ∷ rest
after-tested true byte b bs rest same e =
    let last : bs ≡ rest = cc in
    ap (λ (c : ℕ). c ∷ bs) (eqb-true b byte same) ∙ ap (λ (l : List ℕ). byte ∷ l) last
after-tested false byte b bs rest same e = cc

missed : (t : Bool) (bs : List ℕ) → cond t (Some bs) None ≡ None → t ≡ false
missed true bs e = cc
missed false bs e = refl

not_true : (t : Bool) → not t ≡ true → t ≡ false
not_true true e = absurd (false≢true e)
not_true false e = refl

after-some : (byte : ℕ) (text rest : List ℕ) → after_byte byte text ≡ Some rest → text ≡ byte ∷ rest
after-some byte [] rest e = cc
after-some byte (b ∷ bs) rest e = after-tested (b == byte) byte b bs rest refl e

after-none : (byte b : ℕ) (bs : List ℕ) → after_byte byte (b ∷ bs) ≡ None → (b == byte) ≡ false
after-none byte b bs e = missed (b == byte) bs e

-- the bytes of a text's front pass
abbrev front_len : List ℕ → ℕ
front_len bytes = length (take_while is_etagc bytes)

front-step : (t : Bool) (b : ℕ) (bs run : List ℕ) → run ≡ cond t (b ∷ take_while is_etagc bs) [] → is_etagc b ≡ t → is_opaque (take (front_len bs) bs) ≡ true → is_opaque (take (length run) (b ∷ bs)) ≡ true
front-step true b bs run e same rec = subst (λ (l : List ℕ). is_opaque (take (length l) (b ∷ bs)) ≡ true) (sym e) (and_from (is_etagc b) (is_opaque (take (front_len bs) bs)) same rec)
front-step false b bs run e same rec = subst (λ (l : List ℕ). is_opaque (take (length l) (b ∷ bs)) ≡ true) (sym e) refl

front-passes : (bytes : List ℕ) → is_opaque (take (front_len bytes) bytes) ≡ true
front-passes [] = refl
front-passes (b ∷ bs) = front-step (is_etagc b) b bs (take_while is_etagc (b ∷ bs)) (take_while-cons is_etagc b bs) refl (front-passes bs)

-- an opaque text without a quote behind it
unquoted-step : (t : Bool) (b : ℕ) (bs run seen tag : List ℕ) (found : Bool) → run ≡ cond t (b ∷ take_while is_etagc bs) [] → is_etagc b ≡ t
    → ((more : List ℕ) → after_byte quote (drop (front_len bs) bs) ≡ None → reads tag found (within more) bs ≡ false)
    → after_byte quote (drop (length run) (b ∷ bs)) ≡ None → reads tag found (within seen) (b ∷ bs) ≡ false
unquoted-step true b bs run seen tag found e same rec none =
    cond-false (b == quote) _ _ (not-quote b same) ∙ cond-true (is_etagc b) _ _ same
    ∙ rec (seen ++ b ∷ []) (subst (λ (l : List ℕ). after_byte quote (drop (length l) (b ∷ bs)) ≡ None) e none)
unquoted-step false b bs run seen tag found e same rec none =
    cond-false (b == quote) _ _ (after-none quote b bs (subst (λ (l : List ℕ). after_byte quote (drop (length l) (b ∷ bs)) ≡ None) e none))
    ∙ cond-false (is_etagc b) _ _ same

unquoted : (bytes seen tag : List ℕ) (found : Bool) → after_byte quote (drop (front_len bytes) bytes) ≡ None → reads tag found (within seen) bytes ≡ false
unquoted [] seen tag found none = refl
unquoted (b ∷ bs) seen tag found none =
    unquoted-step (is_etagc b) b bs (take_while is_etagc (b ∷ bs)) seen tag found (take_while-cons is_etagc b bs) refl (λ more e. unquoted bs more tag found e) none

pub opaque-some : (text rest later : List ℕ) (n : ℕ) → after_byte quote text ≡ Some rest → n ≡ front_len rest → after_byte quote (drop n rest) ≡ Some later → BeginsWithOpaque text (take n rest) later
opaque-some text rest later n first len last = (
  omega (arith, ap length (after-some quote text rest first), ap length (after-some quote (drop n rest) later last), length-drop n rest),
  λ tag found.
      ap (λ (l : List ℕ). reads tag found slashed l) (after-some quote text rest first)
      ∙ ap (λ (l : List ℕ). reads tag found (within []) l) (sym (take-append-drop n rest) ∙ ap (λ (l : List ℕ). take n rest ++ l) (after-some quote (drop n rest) later last))
      ∙ reads-within tag found [] (take n rest) later (subst (λ (k : ℕ). is_opaque (take k rest) ≡ true) (sym len) (front-passes rest)),
)

pub opaque-open : (text rest : List ℕ) (n : ℕ) → after_byte quote text ≡ Some rest → n ≡ front_len rest → after_byte quote (drop n rest) ≡ None → IsNoList slashed text
opaque-open text rest n first len last = λ tag found.
    ap (λ (l : List ℕ). reads tag found slashed l) (after-some quote text rest first)
    ∙ unquoted rest [] tag found (subst (λ (k : ℕ). after_byte quote (drop k rest) ≡ None) len last)

pub opaque-none : (text : List ℕ) → after_byte quote text ≡ None → IsNoList slashed text
opaque-none [] none = λ tag found. refl
opaque-none (b ∷ bs) none = λ tag found. cond-false (b == quote) _ _ (after-none quote b bs none)

-- a weak tag
reads-weak : (text rest later : List ℕ) → after_byte 87 text ≡ Some rest → after_byte 47 rest ≡ Some later → (tag : List ℕ) (found : Bool) → reads tag found before text ≡ reads tag found slashed later
reads-weak text rest later mark slash tag found = ap (λ (l : List ℕ). reads tag found before l) (after-some 87 text rest mark ∙ ap (λ (l : List ℕ). 87 ∷ l) (after-some 47 rest later slash))

pub weak-some : (text rest later opaque after : List ℕ) → after_byte 87 text ≡ Some rest → after_byte 47 rest ≡ Some later → BeginsWithOpaque later opaque after → BeginsWithTag text opaque after
weak-some text rest later opaque after mark slash x = (
  omega (arith, x.0, ap length (after-some 87 text rest mark), ap length (after-some 47 rest later slash)),
  λ tag found. reads-weak text rest later mark slash tag found ∙ x.1 tag found,
)

pub weak-none : (text rest later : List ℕ) → after_byte 87 text ≡ Some rest → after_byte 47 rest ≡ Some later → IsNoList slashed later → IsNoList before text
weak-none text rest later mark slash x = λ tag found. reads-weak text rest later mark slash tag found ∙ x tag found

pub weak-unslashed : (text rest : List ℕ) → after_byte 87 text ≡ Some rest → after_byte 47 rest ≡ None → IsNoList before text
weak-unslashed text [] mark slash = λ tag found. ap (λ (l : List ℕ). reads tag found before l) (after-some 87 text [] mark)
weak-unslashed text (b ∷ bs) mark slash = λ tag found.
    ap (λ (l : List ℕ). reads tag found before l) (after-some 87 text (b ∷ bs) mark) ∙ cond-false (b == 47) _ _ (after-none 47 b bs slash)

-- a tag that isn't weak
reads-strong : (text : List ℕ) → 0 < length text → begins_solid text ≡ true → after_byte 87 text ≡ None → (tag : List ℕ) (found : Bool) → reads tag found before text ≡ reads tag found slashed text
reads-strong [] some solid mark tag found = absurd (omega (arith, some))
reads-strong (b ∷ bs) some solid mark tag found =
    cond-false (is_empty b) _ _ (not_true (is_empty b) solid)
    ∙ ap (λ (t : Bool). cond (b == quote) (reads tag found (within []) bs) t) (cond-false (b == 87) _ _ (after-none 87 b bs mark))

pub strong-some : (text opaque after : List ℕ) → 0 < length text → begins_solid text ≡ true → after_byte 87 text ≡ None → BeginsWithOpaque text opaque after → BeginsWithTag text opaque after
strong-some text opaque after some solid mark x = (x.0, λ tag found. reads-strong text some solid mark tag found ∙ x.1 tag found)

pub strong-none : (text : List ℕ) → 0 < length text → begins_solid text ≡ true → after_byte 87 text ≡ None → IsNoList slashed text → IsNoList before text
strong-none text some solid mark x = λ tag found. reads-strong text some solid mark tag found ∙ x tag found

-- behind a tag
skip-step : (t : Bool) (tag : List ℕ) (found : Bool) (b : ℕ) (bs : List ℕ) → is_blank b ≡ t → reads tag found behind (skip_ows bs) ≡ reads tag found behind bs
    → reads tag found behind (cond t (skip_ows bs) (b ∷ bs)) ≡ reads tag found behind (b ∷ bs)
skip-step true tag found b bs same rec = rec ∙ sym (cond-true (is_blank b) _ _ same)
skip-step false tag found b bs same rec = refl

reads-skip : (tag : List ℕ) (found : Bool) (bytes : List ℕ) → reads tag found behind (skip_ows bytes) ≡ reads tag found behind bytes
reads-skip tag found [] = refl
reads-skip tag found (b ∷ bs) = skip-step (is_blank b) tag found b bs refl (reads-skip tag found bs)

-- what is read from a tag on
pub reads-on : (tag text first opaque rest : List ℕ) (found found2 all : Bool) → reads tag found before text ≡ all → ReadAlike before text first → BeginsWithTag first opaque rest
    → found2 ≡ (found || bytes_eq opaque tag) → reads tag found2 behind (skip_ows rest) ≡ all
reads-on tag text first opaque rest found found2 all same alike begins now =
    reads-skip tag found2 rest ∙ ap (λ (t : Bool). reads tag t behind rest) now ∙ sym (begins.1 tag found) ∙ alike tag found ∙ same

stops-step : (t : Bool) (tag : List ℕ) (found : Bool) (b : ℕ) (bs : List ℕ) → is_blank b ≡ t
    → (0 < length (skip_ows bs) → after_byte comma (skip_ows bs) ≡ None → reads tag found behind (skip_ows bs) ≡ false)
    → 0 < length (cond t (skip_ows bs) (b ∷ bs)) → after_byte comma (cond t (skip_ows bs) (b ∷ bs)) ≡ None → reads tag found behind (cond t (skip_ows bs) (b ∷ bs)) ≡ false
stops-step true tag found b bs same rec some none = rec some none
stops-step false tag found b bs same rec some none = cond-false (is_blank b) _ _ same ∙ cond-false (b == comma) _ _ (after-none comma b bs none)

-- what is neither the end nor a comma
pub reads-stop : (tag : List ℕ) (found : Bool) (bytes : List ℕ) → 0 < length (skip_ows bytes) → after_byte comma (skip_ows bytes) ≡ None → reads tag found behind (skip_ows bytes) ≡ false
reads-stop tag found [] some none = absurd (omega (arith, some))
reads-stop tag found (b ∷ bs) some none = stops-step (is_blank b) tag found b bs refl (λ s n. reads-stop tag found bs s n) some none

pub reads-last : (tag : List ℕ) (found : Bool) (bytes : List ℕ) → length bytes ≡ 0 → reads tag found behind bytes ≡ found
reads-last tag found [] none = refl
reads-last tag found (b ∷ bs) none = absurd (omega (arith, none))

pub reads-next : (tag : List ℕ) (found : Bool) (bytes later : List ℕ) → after_byte comma bytes ≡ Some later → reads tag found behind bytes ≡ reads tag found before later
reads-next tag found bytes later e = ap (λ (l : List ℕ). reads tag found behind l) (after-some comma bytes later e)

-- white space is left out, and a comma
skip-len_step : (t : Bool) (b : ℕ) (bs : List ℕ) → length (skip_ows bs) ≤ length bs → length (cond t (skip_ows bs) (b ∷ bs)) ≤ suc (length bs)
skip-len_step true b bs few = omega (arith, few)
skip-len_step false b bs few = omega arith

skip-len : (bytes : List ℕ) → length (skip_ows bytes) ≤ length bytes
skip-len [] = omega arith
skip-len (b ∷ bs) = skip-len_step (is_blank b) b bs (skip-len bs)

pub less-left : (text first opaque rest later : List ℕ) → length first ≤ length text → BeginsWithTag first opaque rest → after_byte comma (skip_ows rest) ≡ Some later → length later < length text
less-left text first opaque rest later few begins e = omega (arith, few, begins.0, skip-len rest, ap length (after-some comma (skip_ows rest) later e))

pub ruleset opaque_parts = (opaque-some, opaque-open, opaque-none)

pub ruleset tag_parts = (weak-some, weak-none, weak-unslashed, strong-some, strong-none)

-- ---- a value, and the fields

by-list : (tag : List ℕ) → (found : Bool) (item : Item) (items : List Item) → found ≡ false → (found ≡ true) ⊎ SomeMatches tag (item ∷ items) → SomeMatches tag (item ∷ items)
by-list tag found item items none (inl e) = absurd (false≢true (sym none ∙ e))
by-list tag found item items none (inr m) = m

list-named : (value tag : List ℕ) → IsRest tag false value → Names value tag
list-named value tag r = listed r.item r.items r.each r.is (by-list tag false r.item r.items refl r.matched)

named-by : (value tag : List ℕ) → (bytes_eq value (codes "*") ≡ true) ⊎ (reads tag false before value ≡ true) → Names value tag
named-by value tag (inl star) = any ((bytes_eq-Decides value (codes "*")).0 star)
named-by value tag (inr list) = list-named value tag (sound tag false before value list)

pub names-sound : (value tag : List ℕ) → names value tag ≡ true → Names value tag
unfolding names
names-sound value tag e = named-by value tag (by-either _ _ e)

pub names-complete : (value tag : List ℕ) → Names value tag → names value tag ≡ true
unfolding names
names-complete value tag (any star) = or_left (bytes_eq value (codes "*")) (reads tag false before value) ((bytes_eq-Decides value (codes "*")).1 star)
names-complete value tag (listed i is each text m) =
    or_right (bytes_eq value (codes "*")) (reads tag false before value)
    (ap (λ (l : List ℕ). reads tag false before l) text ∙ reads-items tag false i is each ∙ some-tested tag (i ∷ is) m)

pub named : (field : FieldValue) (tag : List ℕ) → IsTrue (names_tag field tag) ↔ NamesTag field tag
named Absent tag = (λ e. absurd (false≢true e), λ n. absurd n)
named (Once value) tag = (names-sound value tag, names-complete value tag)
named Repeated tag = (λ e. absurd (false≢true e), λ n. absurd n)

pub named-once : (field : FieldValue) (value tag v t : List ℕ) (b : Bool) → field ≡ Once value → v ≡ value → t ≡ tag → b ≡ names v t → IsTrue b ↔ NamesTag field tag
named-once field value tag v t b once is same reads_so = rw (reads_so, is, same, once) (named (Once value) tag)
