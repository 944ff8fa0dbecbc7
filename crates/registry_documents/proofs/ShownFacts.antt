-- What npm is shown, sent back as it is.
use Rattle.std.proofs.Common.{◌≡◌, inl, inr, Bool, true, false, ◌&&◌, ◌||◌, is_eq, if◌then◌else◌, List, [], ◌∷◌, ◌++◌, codes, Option, Some, None, option_map, option_and_then, is_some, bytes_eq, refl, sym, ap, ◌∙◌, true≢false, Ordering, Less, Equal, Greater, nat_cmp, append_assoc}
use Rattle.std.specs.Prelude.{unwrap_or}
use Rattle.std.specs.List.{list_any}
use Rattle.std.specs.Cmp.Lexicographic.{slice_cmp}
use Rattle.std.specs.Ordering.{match_ordering}
use Rattle.std.proofs.Math.Bool.{or-true}
use Rattle.std.proofs.lemmas.Map.Text.{is_eq-slice_cmp}
use Rattle.std.proofs.lemmas.Option.{none-some}
use Rattle.std.proofs.lemmas.Slice.Eq.{bytes_eq-Decides}
use Rattle.serde_json.specs.Data.{Data, string, array, object, Members, no_members, member}
use Rattle.serde_json.specs.Find.{as_object, as_str, as_array, get, get_member}
use Rattle.registry_names.specs.Texts.{Text}
use Rattle.registry_documents.specs.Claims.{AreFound, ArePlain, ArePlainItems, IsClaim, IsLostOrRepeated, IsManifest, IsPackument, IsPlain, Repeats, RepeatsVersion}
use Rattle.registry_documents.specs.Differences.{adds_none, asked_of_package, besides, change_asked, lost, message_of, news, same_names, same_tags, with_news}
use Rattle.registry_documents.specs.Documents.{has_text, is_of, kind_of, names_in, names_of, with_name}
use Rattle.registry_documents.specs.Fronts.{people, person, shown, with_maintainers}
use Rattle.registry_documents.specs.Judging.{asked_by, asked_in}
use Rattle.registry_documents.specs.Laws.{AllMembers}
use Rattle.registry_documents.specs.Parts.{is_apart}
use Rattle.registry_documents.specs.Values.{both, keys_in, within}
use Rattle.registry_documents.specs.declared.asked.Asked.TheVariants.{AlreadySo}
use Rattle.registry_documents.specs.declared.document.Kind.TheVariants.{Package as Whole}
use Rattle.registry_documents.specs.declared.news.News.{News}
use Rattle.registry_documents.specs.declared.value.Part.TheVariants.{Any, Manifest, Package}
use Rattle.registry_documents.proofs.SameFacts.{a_claim, both_found, get_plain, keys_own}

later : (a b : Bool) → b ≡ true → (a || b) ≡ true
later a b e = rw e (or-true a)

-- ---- members in front

passed : (o : Ordering) (rest : Option Data) (e : Data) → is_eq o ≡ false → match_ordering o rest (Some e) rest ≡ rest
passed Less rest e h = refl
passed Equal rest e h = absurd (true≢false h)
passed Greater rest e h = refl

met : (o : Ordering) (rest : Option Data) (e : Data) → is_eq o ≡ true → match_ordering o rest (Some e) rest ≡ Some e
met Less rest e h = absurd (true≢false (sym h))
met Equal rest e h = refl
met Greater rest e h = absurd (true≢false (sym h))

-- a member with another key is passed over
skip : (k l : Text) (e : Data) (ms : Members) → bytes_eq k l ≡ false → get_member k (member l e ms) ≡ get_member k ms
skip k l e ms h = passed (slice_cmp nat_cmp k l) (get_member k ms) e (is_eq-slice_cmp k l ∙ h)

-- a member with this key is found
here : (k : Text) (e : Data) (ms : Members) → get_member k (member k e ms) ≡ Some e
here k e ms = met (slice_cmp nat_cmp k k) (get_member k ms) e (is_eq-slice_cmp k k ∙ (bytes_eq-Decides k k).1 refl)

-- what is found is found behind a member with another key
behind : (b : Bool) (k l : Text) (e d : Data) (all : Members) → bytes_eq l k ≡ b → get_member k all ≡ None → get_member l all ≡ Some d → get_member l (member k e all) ≡ Some d
behind true k l e d all is none found =
    let same : l ≡ k = (bytes_eq-Decides l k).0 is in
    absurd (none-some d (sym none ∙ (ap (λ t. get_member t all) (sym same) ∙ found)))
behind false k l e d all is none found = skip l k e all is ∙ found

found_behind : (k : Text) (e : Data) (all ms : Members) → get_member k all ≡ None → AreFound all ms → AreFound (member k e all) ms
found_behind k e all no_members none h = tt
found_behind k e all (member l d ms) none h = (behind (bytes_eq l k) k l e d all refl none h.0, found_behind k e all ms none h.1)

-- a plain object is plain with a plain member more
with_member : (k : Text) (e : Data) (ms : Members) → get_member k ms ≡ None → IsPlain e → IsPlain (object ms) → IsPlain (object (member k e ms))
with_member k e ms none p q = ((here k e ms, found_behind k e ms ms none q.0), (p, q.1))

-- ---- maintainers

person_plain : (n : Text) → IsPlain (person n)
person_plain n = with_member (codes "email") (string []) (member (codes "name") (string n) no_members) (skip (codes "email") (codes "name") (string n) no_members refl) tt
    (with_member (codes "name") (string n) no_members refl tt (tt, tt))

people_plain : (ns : List Text) → ArePlainItems (people ns)
people_plain [] = tt
people_plain (n ∷ ns) = (person_plain n, people_plain ns)

name_of_person : (n : Text) → get (codes "name") (person n) ≡ Some (string n)
name_of_person n = skip (codes "name") (codes "email") (string []) (member (codes "name") (string n) no_members) refl ∙ here (codes "name") (string n) no_members

names_of_people : (ns : List Text) → names_of (people ns) ≡ Some ns
names_of_people [] = refl
names_of_people (n ∷ ns) =
    ap (λ o. with_name (option_and_then as_str o) (names_of (people ns))) (name_of_person n) ∙ ap (λ o. with_name (Some n) o) (names_of_people ns)

any_here : (n : Text) (before ns : List Text) → list_any (λ m. bytes_eq m n) (before ++ n ∷ ns) ≡ true
any_here n [] ns = ap (λ b. b || list_any (λ m. bytes_eq m n) ns) ((bytes_eq-Decides n n).1 refl)
any_here n (x ∷ before) ns = later (bytes_eq x n) (list_any (λ m. bytes_eq m n) (before ++ n ∷ ns)) (any_here n before ns)

besides_end : (before ns : List Text) → besides (before ++ ns) ns ≡ []
besides_end before [] = refl
besides_end before (n ∷ ns) =
    ap (λ b. if b then besides (before ++ n ∷ ns) ns else n ∷ besides (before ++ n ∷ ns) ns) (any_here n before ns)
    ∙ (ap (λ xs. besides xs ns) (sym (append_assoc before (n ∷ []) ns)) ∙ besides_end (before ++ n ∷ []) ns)

same_names_itself : (names : List Text) → same_names names names ≡ true
same_names_itself names = rw (besides_end [] names) refl

-- ---- what is shown

shown_get : (k rev : Text) (names : List Text) (ms : Members) → bytes_eq k (codes "_rev") ≡ false → bytes_eq k (codes "maintainers") ≡ false → get k (object (shown rev names ms)) ≡ get k (object ms)
shown_get k rev [] ms h g = skip k (codes "_rev") (string rev) ms h
shown_get k rev (n ∷ ns) ms h g =
    skip k (codes "_rev") (string rev) (with_maintainers (n ∷ ns) ms) h ∙ skip k (codes "maintainers") (array (people (n ∷ ns))) ms g

shown_plain : (rev : Text) (names : List Text) (ms vs : Members) → IsPackument ms vs → IsPlain (object (shown rev names ms))
shown_plain rev [] ms vs p = with_member (codes "_rev") (string rev) ms p.no_revision tt p.plain
shown_plain rev (n ∷ ns) ms vs p =
    with_member (codes "_rev") (string rev) (with_maintainers (n ∷ ns) ms) (skip (codes "_rev") (codes "maintainers") (array (people (n ∷ ns))) ms refl ∙ p.no_revision) tt
    (with_member (codes "maintainers") (array (people (n ∷ ns))) ms p.no_maintainers (people_plain (n ∷ ns)) p.plain)

shown_names : (rev : Text) (names : List Text) (ms vs : Members) → IsPackument ms vs → names_in (object (shown rev names ms)) ≡ Some names
shown_names rev [] ms vs p =
    ap (λ o. unwrap_or (option_map (λ ds. option_and_then names_of (as_array ds)) o) (Some [])) (skip (codes "maintainers") (codes "_rev") (string rev) ms refl ∙ p.no_maintainers)
shown_names rev (n ∷ ns) ms vs p =
    ap (λ o. unwrap_or (option_map (λ ds. option_and_then names_of (as_array ds)) o) (Some []))
    (skip (codes "maintainers") (codes "_rev") (string rev) (with_maintainers (n ∷ ns) ms) refl ∙ here (codes "maintainers") (array (people (n ∷ ns))) ms)
    ∙ names_of_people (n ∷ ns)

shown_revision : (rev : Text) (names : List Text) (ms : Members) → has_text (codes "_rev") rev (object (shown rev names ms)) ≡ true
shown_revision rev names ms =
    ap (λ o. unwrap_or (option_map (λ s. bytes_eq s rev) (option_and_then as_str o)) false) (here (codes "_rev") (string rev) (with_maintainers names ms)) ∙ (bytes_eq-Decides rev rev).1 refl

shown_kind : (rev : Text) (names : List Text) (ms vs : Members) → IsPackument ms vs → kind_of (object (shown rev names ms)) ≡ Whole
shown_kind rev names ms vs p =
    rw (
      shown_get (codes "_attachments") rev names ms refl refl,
      p.no_archive,
      here (codes "_rev") (string rev) (with_maintainers names ms),
      shown_get (codes "versions") rev names ms refl refl,
      p.versions,
    ) refl

-- ---- the document as a whole

shown_versions : (rev : Text) (names : List Text) (ms vs : Members) → IsPackument ms vs → get (codes "versions") (object (shown rev names ms)) ≡ Some (object vs)
shown_versions rev names ms vs p = shown_get (codes "versions") rev names ms refl refl ∙ p.versions

versions_plain : (ms vs : Members) → IsPackument ms vs → IsPlain (object vs)
versions_plain ms vs p = get_plain (codes "versions") (object ms) (object vs) p.plain p.versions

or_false : (a b : Bool) → (a || b) ≡ false → (a ≡ false) × (b ≡ false)
or_false true b h = absurd (true≢false h)
or_false false b h = (refl, h)

-- each member that isn't apart is the packument's own
own : (rev : Text) (names : List Text) (ms : Members) (k : Text) → is_apart Package k ≡ false → get k (object (shown rev names ms)) ≡ get k (object ms)
own rev names ms k out =
    let a = bytes_eq k (codes "_rev") in
    let b = bytes_eq k (codes "dist-tags") in
    let c = bytes_eq k (codes "maintainers") in
    let d = bytes_eq k (codes "time") in
    let first = or_false (((a || b) || c) || d) (bytes_eq k (codes "versions")) out in
    let second = or_false ((a || b) || c) d first.0 in
    let third = or_false (a || b) c second.0 in
    shown_get k rev names ms (or_false a b third.0).0 third.1

-- the version is there, with its manifest
version_there : (rev : Text) (names : List Text) (ms vs : Members) (v : Text) (q : Data) → IsPackument ms vs → get_member v vs ≡ Some q → within (codes "versions") v (object (shown rev names ms)) ≡ Some q
version_there rev names ms vs v q p is = ap (option_and_then (get v)) (shown_versions rev names ms vs p) ∙ is

each_repeated : (rev : Text) (names : List Text) (ms vs us : Members) → IsPackument ms vs → AreFound vs us → ArePlain us → AllMembers IsManifest us
    → AllMembers (IsLostOrRepeated (object (shown rev names ms)) (object ms)) us
each_repeated rev names ms vs no_members p found plain manifests = tt
each_repeated rev names ms vs (member v q us) p found plain manifests =
    let m = manifests.0 in
    let same : Repeats Manifest q q = record { members = m.0; others = m.0; is_object = m.1.0; other_is_object = m.1.0; is_plain = plain.0; other_is_plain = plain.0; found = λ k out. refl } in
    let repeated : RepeatsVersion (object (shown rev names ms)) (object ms) v q = record {
      wanted = q;
      there = version_there rev names ms vs v q p found.0;
      moment = ap (option_and_then (get v)) (shown_get (codes "time") rev names ms refl refl);
      manifest = same;
      dist = inl refl;
      message = m.1.1;
      other_message = m.1.1;
    } in
    (inr repeated, each_repeated rev names ms vs us p found.1 plain.1 manifests.1)

none_lost : (rev : Text) (names : List Text) (ms vs us : Members) → IsPackument ms vs → AreFound vs us → lost (object (shown rev names ms)) us ≡ []
none_lost rev names ms vs no_members p found = refl
none_lost rev names ms vs (member v q us) p found =
    let rest = lost (object (shown rev names ms)) us in
    ap (λ o. if is_some o then rest else v ∷ rest) (version_there rev names ms vs v q p found.0) ∙ none_lost rev names ms vs us p found.1

same_message : (v : Text) (a : Option Text) (ns : List News) → is_some a ≡ true → with_news v a a ns ≡ ns
same_message v None ns h = absurd (true≢false (sym h))
same_message v (Some s) ns h = ap (λ b. if b then ns else record { version = v; message = s } ∷ ns) ((bytes_eq-Decides s s).1 refl)

no_news : (rev : Text) (names : List Text) (ms vs us : Members) → IsPackument ms vs → AreFound vs us → AllMembers IsManifest us → news (object (shown rev names ms)) us ≡ []
no_news rev names ms vs no_members p found manifests = refl
no_news rev names ms vs (member v q us) p found manifests =
    let rest = news (object (shown rev names ms)) us in
    ap (λ o. with_news v (option_and_then message_of o) (message_of q) rest) (version_there rev names ms vs v q p found.0)
    ∙ (same_message v (message_of q) rest manifests.0.1.1 ∙ no_news rev names ms vs us p found.1 manifests.1)

none_added : (rev : Text) (names : List Text) (ms vs : Members) → IsPackument ms vs → adds_none (object (shown rev names ms)) (object ms) ≡ true
none_added rev names ms vs p =
    ap (λ o. both (keys_in Any) (option_and_then as_object o) (get (codes "versions") (object ms))) (shown_versions rev names ms vs p)
    ∙ (ap (λ o. both (keys_in Any) (Some vs) o) p.versions ∙ keys_own Any vs vs (versions_plain ms vs p).0)

a_shown_claim : (rev : Text) (names : List Text) (ms vs : Members) → IsPackument ms vs → IsClaim (object (shown rev names ms)) (object ms) vs names names
a_shown_claim rev names ms vs p =
    let plain = versions_plain ms vs p in
    let repeats : Repeats Package (object (shown rev names ms)) (object ms) = record {
      members = shown rev names ms;
      others = ms;
      is_object = refl;
      other_is_object = refl;
      is_plain = shown_plain rev names ms vs p;
      other_is_plain = p.plain;
      found = own rev names ms;
    } in record {
      members = repeats;
      created = ap (option_and_then (get (codes "created"))) (shown_get (codes "time") rev names ms refl refl);
      versions = each_repeated rev names ms vs vs p plain.0 plain.1 p.manifests;
      none_more = none_added rev names ms vs p;
      maintainers = same_names_itself names;
    }

tags_same : (rev : Text) (names : List Text) (ms vs : Members) → IsPackument ms vs → same_tags (object (shown rev names ms)) (object ms) ≡ true
tags_same rev names ms vs p =
    both_found (get (codes "dist-tags") (object (shown rev names ms))) (get (codes "dist-tags") (object ms)) (shown_get (codes "dist-tags") rev names ms refl refl)
    (λ x h. get_plain (codes "dist-tags") (object ms) x p.plain h)

nothing_asked : (rev : Text) (names : List Text) (ms vs : Members) → IsPackument ms vs → asked_in (object (shown rev names ms)) (object ms) names ≡ Some AlreadySo
nothing_asked rev names ms vs p =
    let w = object (shown rev names ms) in
    let d = object ms in
    let plain = versions_plain ms vs p in
    ap (λ k. asked_by k w d names) (shown_kind rev names ms vs p)
    ∙ (ap (λ o. option_and_then (λ us. option_and_then (asked_of_package w d us names) (names_in w)) (option_and_then as_object o)) p.versions
    ∙ (ap (option_and_then (asked_of_package w d vs names)) (shown_names rev names ms vs p)
    ∙ (a_claim w d vs names names (a_shown_claim rev names ms vs p)
    ∙ (ap (λ g. change_asked w d vs g (news w vs)) (none_lost rev names ms vs vs p plain.0)
    ∙ (ap (λ ns. change_asked w d vs [] ns) (no_news rev names ms vs vs p plain.0 p.manifests)
    ∙ ap (λ b. if b then Some AlreadySo else None) (tags_same rev names ms vs p))))))

pub shown_is_there : (ms vs : Members) (names : List Text) (rev : Text) → IsPackument ms vs
    → (is_of rev None (object (shown rev names ms)) ≡ true) × ((is_of rev (Some rev) (object (shown rev names ms)) ≡ true) × (asked_in (object (shown rev names ms)) (object ms) names ≡ Some AlreadySo))
shown_is_there ms vs names rev p =
    let said = shown_revision rev names ms in
    (ap (λ b. b && true) said, (ap (λ b. b && bytes_eq rev rev) said ∙ (bytes_eq-Decides rev rev).1 refl, nothing_asked rev names ms vs p))
