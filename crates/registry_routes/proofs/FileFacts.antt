-- The name of a file shows one version.
use Rattle.std.proofs.Common.{◌≡◌, ◌≢◌, ℕ, ◌++◌, [], ◌∷◌, length, Some, None, Option, Bool, true, false, refl, sym, ap, ◌∙◌, inl, inr, subst, arith, append_assoc, length-append}
use Rattle.std.specs.Prelude.{◌&&◌, codes, MatchOption, IsUtf8}
use Rattle.std.specs.Borrow.{Bor}
use Rattle.registry_names.proofs.NameFacts.{scope_of-name}
use Rattle.registry_names.specs.Names.{IsNameOf, is_scoped_part, is_scoped_start}
use Rattle.registry_names.specs.Texts.{Text}
use Rattle.registry_names.specs.Versions.{IsVersion}
use Rattle.registry_names.specs.Faults.{IsMemoryOr}
use Rattle.registry_names.specs.declared.refusal.Refusal.{Refusal}
use Rattle.registry_names.specs.declared.refusal.Refusal.TheVariants.{BadVersion, NotFound}
use Rattle.registry_names.specs.declared.stop.Stop.TheVariants.{Refused}
use Rattle.registry_routes.specs.Files.{file_text, IsNameOrPart, IsVersionText, IsNoFileOf}
use Rattle.registry_routes.specs.Written.{StopsValue, text_of}

-- ---- parts of texts

same-back : (xs ys zs : Text) → xs ++ ys ≡ xs ++ zs → ys ≡ zs
same-back [] ys zs e = e
same-back (x ∷ xs) ys zs e = same-back xs ys zs (cc e)

same-front : (xs ys zs : Text) → xs ++ zs ≡ ys ++ zs → xs ≡ ys
same-front [] [] zs e = refl
same-front [] (y ∷ ys) zs e = let len : length zs ≡ length (y ∷ (ys ++ zs)) = ap length e in absurd (omega (arith, len, length-append ys zs))
same-front (x ∷ xs) [] zs e = let len : length (x ∷ (xs ++ zs)) ≡ length zs = ap length e in absurd (omega (arith, len, length-append xs zs))
same-front (x ∷ xs) (y ∷ ys) zs e =
    let first : x ≡ y = cc e in
    let others : xs ++ zs ≡ ys ++ zs = cc e in
    rw (first, same-front xs ys zs others) refl

-- ---- the text of a version

pub no-front : (file front : Text) → ((rest : Text) → file ≢ front ++ rest) → (v : Text) → file ≢ file_text front v
no-front file front none v e = none (45 ∷ (v ++ codes ".tgz")) e

pub no-hyphen : (file front rest : Text) → file ≡ front ++ rest → ((r : Text) → rest ≢ codes "-" ++ r) → (v : Text) → file ≢ file_text front v
no-hyphen file front rest is none v e = none (v ++ codes ".tgz") (same-back front rest (45 ∷ (v ++ codes ".tgz")) (sym is ∙ e))

pub shows-version : (o : Option (Bor Text)) (file front rest rest2 : Text) → file ≡ front ++ rest → rest ≡ codes "-" ++ rest2
    → MatchOption o ((r : Text) → rest2 ≢ r ++ codes ".tgz") (λ v. rest2 ≡ v.now ++ codes ".tgz")
    → MatchOption o ((v : Text) → file ≢ file_text front v) (λ v. file ≡ file_text front v.now)
shows-version None file front rest rest2 is hyphen none = λ v e.
    let tail : rest ≡ 45 ∷ (v ++ codes ".tgz") = same-back front rest (45 ∷ (v ++ codes ".tgz")) (sym is ∙ e) in
    let both : 45 ∷ rest2 ≡ 45 ∷ (v ++ codes ".tgz") = sym hyphen ∙ tail in
    none v (cc both)
shows-version (Some v) file front rest rest2 is hyphen some = is ∙ ap (λ (r : Text). front ++ r) (hyphen ∙ ap (λ (r : Text). 45 ∷ r) some)

-- ---- prefixes

first-of_four : (a b c d : Bool) → (((a && b) && c) && d) ≡ true → a ≡ true
first-of_four true b c d h = refl
first-of_four false b c d h = h

same-part : (t : Text) (s : Option Text) (p q : Text) → IsNameOf t s p → IsNameOf t s q → p ≡ q
same-part t None p q a b = sym a.0 ∙ b.0
same-part t (Some s) p q a b =
    let both : 64 ∷ (s ++ 47 ∷ p) ≡ 64 ∷ (s ++ 47 ∷ q) = sym a.0 ∙ b.0 in
    let tail : 47 ∷ p ≡ 47 ∷ q = same-back s (47 ∷ p) (47 ∷ q) (cc both) in
    cc tail

pub one-part : (t : Text) (s u : Option Text) (p q : Text) → IsNameOf t s p → IsNameOf t u q → p ≡ q
one-part t s u p q a b =
    let same : u ≡ s = scope_of-name t u q b ∙ sym (scope_of-name t s p a) in
    same-part t s p q a (subst (λ (x : Option Text). IsNameOf t x q) same b)

scoped-start : (c : ℕ) (g : Text) → is_scoped_part (c ∷ g) ≡ true → is_scoped_start c ≡ true
scoped-start c g h = first-of_four (is_scoped_start c) _ _ _ h

-- the part of a name with a scope doesn't begin as the name does
no-at : (g tail rest : Text) → is_scoped_part g ≡ true → 64 ∷ rest ≢ g ++ 45 ∷ tail
no-at [] tail rest h e = cc h
no-at (c ∷ g) tail rest h e =
    let first : c ≡ 64 = cc e in
    let start : is_scoped_start c ≡ true = scoped-start c g h in
    let bad : is_scoped_start 64 ≡ true = rw first at start in
    cc bad

begins : (name g v w s : Text) → name ≡ 64 ∷ (s ++ 47 ∷ g) → file_text name v ≡ file_text g w
    → 64 ∷ (s ++ 47 ∷ (g ++ 45 ∷ (v ++ codes ".tgz"))) ≡ g ++ 45 ∷ (w ++ codes ".tgz")
begins name g v w s is e =
    let whole : file_text name v ≡ 64 ∷ (s ++ 47 ∷ (g ++ 45 ∷ (v ++ codes ".tgz"))) = rw is (ap (λ (l : Text). 64 ∷ l) (append_assoc s (47 ∷ g) (45 ∷ (v ++ codes ".tgz")))) in
    sym whole ∙ e

name-front : (name g v w : Text) (s : Option Text) → IsNameOf name s g → file_text name v ≡ file_text g w → name ≡ g
name-front name g v w None h e = h.0
name-front name g v w (Some s) h e = absurd (no-at g (w ++ codes ".tgz") (s ++ 47 ∷ (g ++ 45 ∷ (v ++ codes ".tgz"))) h.2 (begins name g v w s h.0 e))

one-front : (name f g v w : Text) → IsNameOrPart name f → IsNameOrPart name g → file_text f v ≡ file_text g w → f ≡ g
one-front name f g v w (inl a) (inl b) e = a ∙ sym b
one-front name f g v w (inl a) (inr b) e = a ∙ name-front name g v w b.0 b.1 (rw a at e)
one-front name f g v w (inr a) (inl b) e = sym (b ∙ name-front name f w v a.0 a.1 (rw b at (sym e)))
one-front name f g v w (inr a) (inr b) e = one-part name a.0 b.0 f g a.1 b.1

-- the name of a file shows one text for the version
one-version : (name f g v w : Text) → IsNameOrPart name f → IsNameOrPart name g → file_text f v ≡ file_text g w → v ≡ w
one-version name f g v w a b e =
    let front = one-front name f g v w a b e in
    let same : file_text g v ≡ file_text g w = rw front at e in
    let tail : 45 ∷ (v ++ codes ".tgz") ≡ 45 ∷ (w ++ codes ".tgz") = same-back g _ _ same in
    same-front v w (codes ".tgz") (cc tail)

no-text : (name file part : Text) (s : Option Text) → IsNameOf name s part → ((v : Text) → file ≢ file_text name v) → ((v : Text) → file ≢ file_text part v)
    → (f v : Text) → IsNameOrPart name f → file ≢ file_text f v
no-text name file part s h one two f v (inl a) e = one v (rw a at e)
no-text name file part s h one two f v (inr b) e = two v (rw (one-part name b.0 s f part b.1 h) at e)

-- neither of the two prefixes is in the file's name, or the part is
pub parts-tried : (o : Option (Bor Text)) (name file part : Text) (s : Option Text) → IsNameOf name s part → ((v : Text) → file ≢ file_text name v)
    → MatchOption o ((v : Text) → file ≢ file_text part v) (λ v. file ≡ file_text part v.now)
    → MatchOption o ((f v : Text) → IsNameOrPart name f → file ≢ file_text f v) (λ v. IsVersionText name file v.now)
parts-tried None name file part s h one two = no-text name file part s h one two
parts-tried (Some v) name file part s h one two = (part, inr (s, h), two)

no-version : (name file text : Text) → IsVersionText name file text → ¬ (IsVersion text) → IsNoFileOf name file
no-version name file text a none v p =
    let same : text ≡ p.text = one-version name a.0 p.front text p.text a.1 p.is_front (sym a.2 ∙ p.is_file) in
    none (v, rw same p.is_version)

-- the text for the version is none
pub stops-file : (name file text written : Text) (x : Refusal) → file ≡ text_of written → IsUtf8 file → IsVersionText name file text → IsMemoryOr BadVersion (¬ (IsVersion text)) (Refused x)
    → StopsValue written NotFound (IsNoFileOf name) (Refused NotFound)
stops-file name file text written x is utf8 shown (inl m) = cc m
stops-file name file text written x is utf8 shown (inr r) = inr (refl, subst IsUtf8 is utf8, subst (IsNoFileOf name) is (no-version name file text shown r.1))
