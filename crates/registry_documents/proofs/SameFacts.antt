-- Values that have the same under each key are the same.
use Rattle.std.proofs.Common.{◌≡◌, inl, inr, Bool, true, false, ◌&&◌, ◌||◌, List, codes, Option, Some, None, option_map, option_and_then, is_some, if◌then◌else◌, refl, sym, ap, ◌∙◌, subst, true≢false, pos, Ordering, Less, Equal, Greater, nat_cmp}
use Rattle.std.specs.Prelude.{unwrap_or}
use Rattle.std.specs.Cmp.Lexicographic.{slice_cmp}
use Rattle.std.specs.Ordering.{match_ordering}
use Rattle.std.proofs.lemmas.Bool.Decides.{Decides-int_eq}
use Rattle.std.proofs.lemmas.Option.{none-some}
use Rattle.std.proofs.Math.Bool.{or-true}
use Rattle.std.proofs.lemmas.Slice.Eq.{bytes_eq-Decides}
use Rattle.serde_json.specs.Data.{Num, unsigned, negative, float, Data, null, boolean, number, string, array, object, Items, no_items, item, Members, no_members, member}
use Rattle.serde_json.specs.Find.{get, get_member, is_float}
use Rattle.registry_names.specs.Texts.{Text}
use Rattle.registry_documents.specs.Claims.{AreFound, ArePlain, ArePlainItems, IsClaim, IsLostOrRepeated, IsPlain, Repeats, RepeatsDist, RepeatsVersion}
use Rattle.registry_documents.specs.Differences.{are_same, asked_of_package, change_asked, is_same, lost, news, same_dist, same_names, same_version, says_the_same}
use Rattle.registry_documents.specs.Laws.{AllMembers}
use Rattle.registry_documents.specs.Parts.{is_apart}
use Rattle.registry_documents.specs.Values.{is_key, items_same, keys_in, members_in, same, same_but, same_flag, same_found, same_number, within}
use Rattle.registry_documents.specs.declared.value.Part.{Part}
use Rattle.registry_documents.specs.declared.value.Part.TheVariants.{Any, Dist, Manifest, Package}

both_true : {a b : Bool} → a ≡ true → b ≡ true → (a && b) ≡ true
both_true e f = rw (e, f) refl

or_right : (a b : Bool) → b ≡ true → (a || b) ≡ true
or_right a b e = rw e (or-true a)

same_flag_itself : (b : Bool) → same_flag b b ≡ true
same_flag_itself true = refl
same_flag_itself false = refl

same_number_itself : (n : Num) → is_float n ≡ false → same_number n n ≡ true
same_number_itself (unsigned n) h = (Decides-int_eq (pos n) (pos n)).1 refl
same_number_itself (negative z) h = (Decides-int_eq z z).1 refl
same_number_itself (float x) h = absurd (true≢false h)

-- a member that is found
key_there : (part : Part) (k : Text) (d x : Data) → get k x ≡ Some d → is_key part x k ≡ true
key_there part k d x is = or_right (is_apart part k) (is_some (get k x)) (ap is_some is)

-- the members of an object are its keys
pub keys_own : (part : Part) (all ms : Members) → AreFound all ms → keys_in part ms (object all) ≡ true
keys_own part all no_members h = refl
keys_own part all (member k d ms) h = both_true (key_there part k d (object all) h.0) (keys_own part all ms h.1)

found_as : (d : Data) (o : Option Data) → o ≡ Some d → same d d ≡ true → unwrap_or (option_map (same d) o) false ≡ true
found_as d o is h = ap (λ x. unwrap_or (option_map (same d) x) false) is ∙ h

mutual
  same_itself : (d : Data) → IsPlain d → same d d ≡ true
  same_itself null h = refl
  same_itself (boolean b) h = same_flag_itself b
  same_itself (number n) h = same_number_itself n h
  same_itself (string s) h = (bytes_eq-Decides s s).1 refl
  same_itself (array ds) h = items_same_itself ds h
  same_itself (object ms) h = both_true (members_own Any ms ms h.0 h.1) (keys_own Any ms ms h.0)

  items_same_itself : (ds : Items) → ArePlainItems ds → items_same ds ds ≡ true
  items_same_itself no_items h = refl
  items_same_itself (item d ds) h = both_true (same_itself d h.0) (items_same_itself ds h.1)

  members_own : (part : Part) (all ms : Members) → AreFound all ms → ArePlain ms → members_in part ms (object all) ≡ true
  members_own part all no_members h p = refl
  members_own part all (member k d ms) h p =
      both_true (or_right (is_apart part k) (unwrap_or (option_map (same d) (get_member k all)) false) (found_as d (get_member k all) h.0 (same_itself d p.0))) (members_own part all ms h.1 p.1)

found_itself : (d : Data) (o : Option Data) → o ≡ Some d → IsPlain d → unwrap_or (option_map (same d) o) false ≡ true
found_itself d o is p = found_as d o is (same_itself d p)

-- one member, apart or found
either_apart : (b c : Bool) → (b ≡ false → c ≡ true) → (b || c) ≡ true
either_apart true c h = refl
either_apart false c h = h refl

members_found : (part : Part) (all ms : Members) (e : Data) → AreFound all ms → ArePlain ms → ((k : Text) → is_apart part k ≡ false → get_member k all ≡ get k e) → members_in part ms e ≡ true
members_found part all no_members e h p f = refl
members_found part all (member k d ms) e h p f =
    both_true (either_apart (is_apart part k) (unwrap_or (option_map (same d) (get k e)) false) (λ out. found_itself d (get k e) (sym (f k out) ∙ h.0) p.0)) (members_found part all ms e h.1 p.1 f)

keys_found : (part : Part) (all ms : Members) (d : Data) → AreFound all ms → ((k : Text) → is_apart part k ≡ false → get k d ≡ get_member k all) → keys_in part ms d ≡ true
keys_found part all no_members d h f = refl
keys_found part all (member k e ms) d h f = both_true (either_apart (is_apart part k) (is_some (get k d)) (λ out. ap is_some (f k out ∙ h.0))) (keys_found part all ms d h.1 f)

objects_same : (part : Part) (ms ns : Members) → IsPlain (object ms) → IsPlain (object ns) → ((k : Text) → is_apart part k ≡ false → get k (object ms) ≡ get k (object ns)) → same_but part (object ms) (object ns) ≡ true
objects_same part ms ns p q f = both_true (members_found part ms ms (object ns) p.0 p.1 f) (keys_found part ns ns (object ms) q.0 f)

pub repeated : (part : Part) (d e : Data) → Repeats part d e → same_but part d e ≡ true
repeated part d e r =
    rw (r.is_object, r.other_is_object) (objects_same part r.members r.others (subst IsPlain r.is_object r.is_plain) (subst IsPlain r.other_is_object r.other_is_plain)
    (λ k out. ap (get k) (sym r.is_object) ∙ r.found k out ∙ ap (get k) r.other_is_object))

-- what is found in what is plain is plain
chosen : (o : Ordering) (rest : Option Data) (e d : Data) → match_ordering o rest (Some e) rest ≡ Some d → IsPlain e → (rest ≡ Some d → IsPlain d) → IsPlain d
chosen Less rest e d h p f = f h
chosen Equal rest e d h p f = subst IsPlain (ap (λ o. unwrap_or o d) h) p
chosen Greater rest e d h p f = f h

member_plain : (k : Text) (ms : Members) (d : Data) → ArePlain ms → get_member k ms ≡ Some d → IsPlain d
member_plain k no_members d p h = absurd (none-some d h)
member_plain k (member l e ms) d p h = chosen (slice_cmp nat_cmp k l) (get_member k ms) e d h p.0 (member_plain k ms d p.1)

pub get_plain : (k : Text) (d x : Data) → IsPlain d → get k d ≡ Some x → IsPlain x
get_plain k null x p h = absurd (none-some x h)
get_plain k (boolean b) x p h = absurd (none-some x h)
get_plain k (number n) x p h = absurd (none-some x h)
get_plain k (string s) x p h = absurd (none-some x h)
get_plain k (array ds) x p h = absurd (none-some x h)
get_plain k (object ms) x p h = member_plain k ms x p.1 h

inner_plain : (k l : Text) (d x : Data) (o : Option Data) → IsPlain d → get k d ≡ o → option_and_then (get l) o ≡ Some x → IsPlain x
inner_plain k l d x None p is h = absurd (none-some x h)
inner_plain k l d x (Some y) p is h = get_plain l y x (get_plain k d y p is) h

within_plain : (k l : Text) (d x : Data) → IsPlain d → within k l d ≡ Some x → IsPlain x
within_plain k l d x p h = inner_plain k l d x (get k d) p refl h

found_same : (o : Option Data) → ((x : Data) → o ≡ Some x → IsPlain x) → same_found o o ≡ true
found_same None f = refl
found_same (Some d) f = same_itself d (f d refl)

pub both_found : (a b : Option Data) → a ≡ b → ((x : Data) → b ≡ Some x → IsPlain x) → same_found a b ≡ true
both_found a b e f = rw e (found_same b f)

dist_same : (o : Option Data) → ((x : Data) → o ≡ Some x → IsPlain x) → same_dist o o ≡ true
dist_same None f = refl
dist_same (Some d) f = or_right (same_but Dist d d) (same d d) (same_itself d (f d refl))

or_left : (a b : Bool) → a ≡ true → (a || b) ≡ true
or_left a b e = rw e refl

both_dist : (a b : Option Data) → RepeatsDist a b → ((x : Data) → b ≡ Some x → IsPlain x) → same_dist a b ≡ true
both_dist a b (inl e) f = rw e (dist_same b f)
both_dist a b (inr (d, (e, (is, (other_is, r))))) f = rw (is, other_is) (or_left (same_but Dist d e) (same d e) (repeated Dist d e r))

-- moments that are the same
moments : (w d : Data) (k : Text) → IsPlain d → within (codes "time") k w ≡ within (codes "time") k d → same_found (within (codes "time") k w) (within (codes "time") k d) ≡ true
moments w d k p e = both_found (within (codes "time") k w) (within (codes "time") k d) e (λ x h. within_plain (codes "time") k d x p h)

version_same : (w d : Data) (v : Text) (p : Data) → IsPlain d → (r : RepeatsVersion w d v p) → same_version w d v r.wanted p ≡ true
version_same w d v p plain r =
    let dists = both_dist (get (codes "dist") r.wanted) (get (codes "dist") p) r.dist (λ x h. get_plain (codes "dist") p x r.manifest.other_is_plain h) in
    both_true (both_true (both_true (both_true (repeated Manifest r.wanted p r.manifest) dists) r.message) r.other_message) (moments w d v plain r.moment)

one_same : (w d : Data) (v : Text) (p : Data) → IsPlain d → IsLostOrRepeated w d v p → is_same w d v p ≡ true
one_same w d v p plain (inl none) = rw none refl
one_same w d v p plain (inr r) = rw r.there (version_same w d v p plain r)

each_same : (w d : Data) (vs : Members) → IsPlain d → AllMembers (IsLostOrRepeated w d) vs → are_same w d vs ≡ true
each_same w d no_members plain h = refl
each_same w d (member v p vs) plain h = both_true (one_same w d v p plain h.0) (each_same w d vs plain h.1)

says_so : (w d : Data) (vs : Members) (present names : List Text) → IsClaim w d vs present names → says_the_same w d vs (same_names present names) ≡ true
says_so w d vs present names c =
    let plain = c.members.other_is_plain in
    both_true (both_true (both_true (both_true (repeated Package w d c.members) (moments w d (codes "created") plain c.created)) c.none_more) (each_same w d vs plain c.versions)) c.maintainers

taken : {A : Type 0} (b : Bool) (o : Option A) → b ≡ true → (if b then o else None) ≡ o
taken b o e = rw e refl

pub a_claim : (w d : Data) (vs : Members) (present names : List Text) → IsClaim w d vs present names → asked_of_package w d vs present names ≡ change_asked w d vs (lost w vs) (news w vs)
a_claim w d vs present names c = taken (says_the_same w d vs (same_names present names)) (change_asked w d vs (lost w vs) (news w vs)) (says_so w d vs present names c)
