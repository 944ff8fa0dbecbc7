-- A manifest's members as they are written, with a text put among them.
use Rattle.std.proofs.Common.{◌≡◌, ℕ, suc, ◌+◌, ◌≤◌, Bool, true, false, not, ◌&&◌, ◌||◌, cond, nat_lt, List, [], ◌∷◌, length, Some, None, unwrap_or, refl, ap, ap₂, ◌∙◌, arith, rules, codes}
use Rattle.std.proofs.lemmas.List.Sums.{prefix_len-le-length}
use Rattle.std.proofs.lemmas.Bool.{ltb-false}
use Rattle.std.specs.Borrow.{Bor}
use Rattle.std.specs.List.{filter, insert, list_any, prefix_len, position, position_or_len}
use Rattle.std.specs.Ordering.{is_lt}
use Rattle.std.specs.Str.{bytes_eq}
use Rattle.json.specs.Json.{Json, boolean, string, Members, no_members, member}
use Rattle.json.specs.Tree.{HasNumbers, MembersHaveNumbers}
use Rattle.json.specs.Value.{value_view, members_view}
use Rattle.json.specs.declared.value.Value.{Value, String, the_lemmas}
use Rattle.registry_names.specs.Texts.{text_cmp}
use Rattle.registry_packument.specs.Abbreviated.{has_unsaid_script, install_members, is_install_key, is_of_scripts, some_member, with_script}
use Rattle.registry_packument.specs.Documents.{members_without, placed, with_message, written_members}

abbrev pub Entry : Type 0 → Type 0
Entry A = Bor (List ℕ) × Value A

abbrev pub is_other : {A : Type 0} → List ℕ → Entry A → Bool
is_other k m = not (bytes_eq m.0.now k)

abbrev pub is_later : {A : Type 0} → List ℕ → Entry A → Bool
is_later k m = is_lt (text_cmp k m.0.now)

pub members_view-filter : {A : Type 0} (k : List ℕ) (ms : List (Entry A)) → members_view (filter (is_other k) ms) ≡ members_without k (members_view ms)
members_view-filter k [] = refl
members_view-filter k (m ∷ ms) =
    let rest = members_view-filter k ms in
    elim (bytes_eq m.0.now k)
    as (λ b. members_view (cond (not b) (m ∷ filter (is_other k) ms) (filter (is_other k) ms)) ≡ cond b (members_without k (members_view ms)) (member m.0.now (value_view m.1) (members_without k (members_view ms)))) [
      | true ↦ rest
      | false ↦ ap (member m.0.now (value_view m.1)) rest
    ]

insert_one : {X : Type 0} (x y : X) (xs : List X) (i : ℕ) → insert (x ∷ xs) (1 + i) y ≡ x ∷ insert xs i y
insert_one x y xs i = let e : 1 + i ≡ suc i = omega arith in rw e refl

pub members_view-insert : {A : Type 0} (k : List ℕ) (m : Entry A) (ms : List (Entry A)) → m.0.now ≡ k
    → members_view (insert ms (position_or_len (is_later k) ms) m) ≡ placed k (value_view m.1) (members_view ms)
members_view-insert k m [] e = ap (λ l. member l (value_view m.1) no_members) e
members_view-insert k m (n ∷ ms) e =
    let rest = members_view-insert k m ms e in
    elim (is_later k n)
    as (λ b. members_view (insert (n ∷ ms) (cond (not b) (1 + prefix_len (λ x. not (is_later k x)) ms) 0) m)
    ≡ cond b (member k (value_view m.1) (members_view (n ∷ ms))) (member n.0.now (value_view n.1) (placed k (value_view m.1) (members_view ms)))) [
      | true ↦ ap (λ l. member l (value_view m.1) (members_view (n ∷ ms))) e
      | false ↦ ap members_view (insert_one n m ms _) ∙ ap (member n.0.now (value_view n.1)) rest
    ]

pub value_view-String : (A : Type 0) (s : Bor (List ℕ)) → value_view {A = A} (String s) ≡ string s.now
value_view-String A s = search (rules, the_lemmas)

-- a test of some member
pub some_member-view : {A : Type 0} (test : List ℕ → Json → Bool) (ms : List (Entry A)) → list_any (λ m. test m.0.now (value_view m.1)) ms ≡ some_member test (members_view ms)
some_member-view test [] = refl
some_member-view test (m ∷ ms) = ap (λ b. test m.0.now (value_view m.1) || b) (some_member-view test ms)

pub unsaid-view : {A : Type 0} (ms : List (Entry A))
    → (list_any (λ m. is_of_scripts m.0.now (value_view m.1)) ms && not (list_any (λ m. bytes_eq m.0.now (codes "hasInstallScript")) ms)) ≡ has_unsaid_script (members_view ms)
unsaid-view ms = ap₂ (λ a b. a && not b) (some_member-view is_of_scripts ms) (some_member-view (λ k _. bytes_eq k (codes "hasInstallScript")) ms)

-- ---- numbers

numbers_if : (b : Bool) (ms ns : Members) → MembersHaveNumbers ms → MembersHaveNumbers ns → MembersHaveNumbers (cond b ms ns)
numbers_if true ms ns h i = h
numbers_if false ms ns h i = i

pub MembersHaveNumbers-without : (k : List ℕ) (ms : Members) → MembersHaveNumbers ms → MembersHaveNumbers (members_without k ms)
MembersHaveNumbers-without k no_members h = tt
MembersHaveNumbers-without k (member l j ms) h =
    let rest = MembersHaveNumbers-without k ms h.1 in numbers_if (bytes_eq l k) _ (member l j (members_without k ms)) rest (h.0, rest)

pub MembersHaveNumbers-placed : (k : List ℕ) (i : Json) (ms : Members) → HasNumbers i → MembersHaveNumbers ms → MembersHaveNumbers (placed k i ms)
MembersHaveNumbers-placed k i no_members n h = (n, tt)
MembersHaveNumbers-placed k i (member l j ms) n h =
    numbers_if (is_lt (text_cmp k l)) (member k i (member l j ms)) (member l j (placed k i ms)) (n, h) (h.0, MembersHaveNumbers-placed k i ms n h.1)

pub MembersHaveNumbers-install : (ms : Members) → MembersHaveNumbers ms → MembersHaveNumbers (install_members ms)
MembersHaveNumbers-install no_members h = tt
MembersHaveNumbers-install (member k j ms) h =
    let rest = MembersHaveNumbers-install ms h.1 in numbers_if (is_install_key k) (member k j (install_members ms)) (install_members ms) (h.0, rest) rest

MembersHaveNumbers-with_message : (message : List ℕ) (ms : Members) → MembersHaveNumbers ms → MembersHaveNumbers (with_message message ms)
MembersHaveNumbers-with_message [] ms h = h
MembersHaveNumbers-with_message (c ∷ message) ms h =
    let key = codes "deprecated" in
    MembersHaveNumbers-placed key (string (c ∷ message)) (members_without key ms) tt (MembersHaveNumbers-without key ms h)

MembersHaveNumbers-with_script : (ms : Members) → MembersHaveNumbers ms → MembersHaveNumbers (with_script ms)
MembersHaveNumbers-with_script ms h =
    let key = codes "hasInstallScript" in
    numbers_if (has_unsaid_script ms) (placed key (boolean true) ms) ms (MembersHaveNumbers-placed key (boolean true) ms tt h) h

-- what an install reads of a manifest can be written
pub abbreviated_numbers : (manifest message : List ℕ) → MembersHaveNumbers (written_members manifest)
    → MembersHaveNumbers (install_members (with_script (with_message message (written_members manifest))))
abbreviated_numbers manifest message h =
    let all = with_message message (written_members manifest) in
    MembersHaveNumbers-install (with_script all) (MembersHaveNumbers-with_script all (MembersHaveNumbers-with_message message (written_members manifest) h))

-- ---- what an install reads

install_at : {A : Type 0} (b : Bool) (m : Entry A) (ms : List (Entry A)) (js : Members) → members_view ms ≡ js
    → members_view (cond b (m ∷ ms) ms) ≡ cond b (member m.0.now (value_view m.1) js) js
install_at true m ms js e = ap (member m.0.now (value_view m.1)) e
install_at false m ms js e = e

members_view-install : {A : Type 0} (ms : List (Entry A)) → members_view (filter (λ m. is_install_key m.0.now) ms) ≡ install_members (members_view ms)
members_view-install [] = refl
members_view-install (m ∷ ms) =
    install_at (is_install_key m.0.now) m (filter (λ m. is_install_key m.0.now) ms) (install_members (members_view ms)) (members_view-install ms)

-- the members that are read, with the message, with what is found of the scripts, and those that are
-- kept of them
pub abbreviated_members : {A : Type 0} (manifest message : List ℕ) (read put added kept : List (Entry A)) → members_view read ≡ written_members manifest
    → members_view put ≡ with_message message (members_view read) → members_view added ≡ with_script (members_view put) → kept ≡ filter (λ m. is_install_key m.0.now) added
    → members_view kept ≡ install_members (with_script (with_message message (written_members manifest)))
abbreviated_members manifest message read put added kept is-read is-put is-added is-kept =
    ap members_view is-kept ∙ members_view-install added
    ∙ ap install_members (is-added ∙ ap with_script (is-put ∙ ap (with_message message) is-read))

-- ---- places

place_at : (i n : ℕ) → i ≤ n → unwrap_or (cond (nat_lt i n) (Some i) None) n ≡ i
place_at i n le =
    elim (nat_lt i n) as (λ b. nat_lt i n ≡ b → unwrap_or (cond b (Some i) None) n ≡ i) [
      | true ↦ λ _. refl
      | false ↦ λ e. let most : n ≤ i = ltb-false i n e in omega arith
    ] refl

pub unwrap_or-position : {X : Type 0} (p : X → Bool) (xs : List X) → unwrap_or (position p xs) (length xs) ≡ position_or_len p xs
unwrap_or-position p xs = place_at (position_or_len p xs) (length xs) (prefix_len-le-length (λ x. not (p x)) xs)

pub position_or_len-within : {X : Type 0} (p : X → Bool) (xs : List X) → position_or_len p xs ≤ length xs
position_or_len-within p xs = prefix_len-le-length (λ x. not (p x)) xs
