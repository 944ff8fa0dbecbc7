-- Why a publication that isn't in form is refused in one way.
use Rattle.std.proofs.Common.{◌≡◌, ◌≤◌, ◌<◌, ◌∙◌, true, Option, Some, Result, Ok, Err, codes, length, unwrap_or, arith, refl, sym, ap, subst, inl, inr}
use Rattle.std.proofs.lemmas.Bool.{false≢true}
use Rattle.serde_json.specs.Data.{Data}
use Rattle.serde_json.specs.Read.{read}
use Rattle.registry_names.specs.Bodies.{body_limit}
use Rattle.registry_names.specs.Names.{IsName}
use Rattle.registry_names.specs.Tags.{is_tag, latest}
use Rattle.registry_names.specs.Texts.{Text}
use Rattle.registry_names.specs.Versions.{IsVersion}
use Rattle.registry_names.specs.declared.refusal.Refusal.{Refusal}
use Rattle.registry_names.specs.declared.refusal.Refusal.TheVariants.{BadBody, BadIntegrity, BadName, BadTag, BadVersion, RangeTag, TooLarge}
use Rattle.registry_names.specs.declared.stop.Stop.{Stop}
use Rattle.registry_names.specs.declared.stop.Stop.TheVariants.{Refused as Refuses}
use Rattle.registry_publish.specs.Attachments.{IsAttached}
use Rattle.registry_publish.specs.Body.{BodyParts, IsBody, IsBodyOf, tag_of}
use Rattle.registry_publish.specs.DistTags.{tag_at}
use Rattle.registry_publish.specs.Form.{FormParts, IsFormOf, IsRefusedBody}
use Rattle.registry_publish.specs.Integrity.{has_integrity, integrity_text}
use Rattle.registry_publish.specs.Members.{sole_at, text_at}
use Rattle.registry_ranges.specs.Grammar.{IsRangeText}
use Rattle.registry_service.specs.Bodies.{reads_form}

-- ---- a body says one thing

one-some : {A : Type 0} (o : Option A) (x y : A) → o ≡ Some x → o ≡ Some y → x ≡ y
one-some {A} o x y p q = let same : ◌≡◌ {A = Option A} (Some x) (Some y) = sym p ∙ q in cc

one-ok : {A E : Type 0} (o : Result A E) (x y : A) → o ≡ Ok x → o ≡ Ok y → x ≡ y
one-ok {A} {E} o x y p q = let same : ◌≡◌ {A = Result A E} (Ok x) (Ok y) = sym p ∙ q in cc

record Same (p q : BodyParts) : Type 0 where
  name : p.name ≡ q.name
  version : p.version ≡ q.version
  manifest : p.manifest ≡ q.manifest
  tag : p.tag ≡ q.tag
  archive : p.archive ≡ q.archive

same-archive : (d : Data) (y z : Text) → IsAttached d y → IsAttached d z → y ≡ z
same-archive d y z a b =
    let sole : (a.file, a.attachment) ≡ (b.file, b.attachment) = one-some (sole_at (codes "_attachments") d) (a.file, a.attachment) (b.file, b.attachment) a.sole b.sole in
    let attachment : a.attachment ≡ b.attachment = ap (λ (x : Text × Data). x.1) sole in
    let coded : a.coded ≡ b.coded = one-some (text_at (codes "data") a.attachment) a.coded b.coded a.text (ap (λ (x : Data). text_at (codes "data") x) attachment ∙ b.text) in
    one-ok _ y z a.decoded (rw (← coded) at b.decoded)

same-value : (d : Data) (p q : BodyParts) → IsBody d p → IsBody d q → Same p q
same-value d p q a b =
    let sole : (p.version, p.manifest) ≡ (q.version, q.manifest) = one-some (sole_at (codes "versions") d) (p.version, p.manifest) (q.version, q.manifest) a.version b.version in
    let version : p.version ≡ q.version = ap (λ (x : Text × Data). x.0) sole in
    record {
      name = one-some (text_at (codes "name") d) p.name q.name a.name b.name;
      version = version;
      manifest = ap (λ (x : Text × Data). x.1) sole;
      tag = one-some (tag_at p.version d) p.tag q.tag a.tag (ap (λ (v : Text). tag_at v d) version ∙ b.tag);
      archive = same-archive d p.archive q.archive a.archive b.archive;
    }

same-parts : (b : Text) (p q : BodyParts) → IsBodyOf b p → IsBodyOf b q → Same p q
same-parts b p q (d, utf8, is, body) (e, also, too, other) =
    let same : d ≡ e = one-some (read b) d e is too in
    same-value d p q body (subst (λ (x : Data). IsBody x q) (sym same) other)

same-tag : (b : Text) (p q : BodyParts) → IsBodyOf b p → IsBodyOf b q → tag_of p ≡ tag_of q
same-tag b p q x y = ap (λ (t : Option Text). unwrap_or t latest) (same-parts b p q x y).tag

too-large : (b : Text) → body_limit < length b → length b ≤ body_limit → ⊥
too-large b large short = omega (arith, large, short)

-- ---- and is refused in one way

same-refused : (b : Text) (r t : Refusal) → IsRefusedBody b r → IsRefusedBody b t → r ≡ t
same-refused b TooLarge TooLarge large1 large2 = refl
same-refused b TooLarge BadBody large1 (short2, none2) = absurd (too-large b large1 short2)
same-refused b TooLarge BadName large1 (p2, short2, body2, no2) = absurd (too-large b large1 short2)
same-refused b TooLarge BadVersion large1 (p2, short2, body2, (name2, no2)) = absurd (too-large b large1 short2)
same-refused b TooLarge RangeTag large1 (p2, short2, body2, (name2, version2, range2)) = absurd (too-large b large1 short2)
same-refused b TooLarge BadTag large1 (p2, short2, body2, (name2, version2, bad2, no2)) = absurd (too-large b large1 short2)
same-refused b TooLarge BadIntegrity large1 (p2, short2, body2, (name2, version2, tag2, no2)) = absurd (too-large b large1 short2)
same-refused b TooLarge _ h k = absurd k
same-refused b BadBody TooLarge (short1, none1) large2 = absurd (too-large b large2 short1)
same-refused b BadBody BadBody (short1, none1) (short2, none2) = refl
same-refused b BadBody BadName (short1, none1) (p2, short2, body2, no2) = absurd (none1 p2 body2)
same-refused b BadBody BadVersion (short1, none1) (p2, short2, body2, (name2, no2)) = absurd (none1 p2 body2)
same-refused b BadBody RangeTag (short1, none1) (p2, short2, body2, (name2, version2, range2)) = absurd (none1 p2 body2)
same-refused b BadBody BadTag (short1, none1) (p2, short2, body2, (name2, version2, bad2, no2)) = absurd (none1 p2 body2)
same-refused b BadBody BadIntegrity (short1, none1) (p2, short2, body2, (name2, version2, tag2, no2)) = absurd (none1 p2 body2)
same-refused b BadBody _ h k = absurd k
same-refused b BadName TooLarge (p1, short1, body1, no1) large2 = absurd (too-large b large2 short1)
same-refused b BadName BadBody (p1, short1, body1, no1) (short2, none2) = absurd (none2 p1 body1)
same-refused b BadName BadName (p1, short1, body1, no1) (p2, short2, body2, no2) = refl
same-refused b BadName BadVersion (p1, short1, body1, no1) (p2, short2, body2, (name2, no2)) = absurd (no1 (subst IsName (same-parts b p2 p1 body2 body1).name name2))
same-refused b BadName RangeTag (p1, short1, body1, no1) (p2, short2, body2, (name2, version2, range2)) = absurd (no1 (subst IsName (same-parts b p2 p1 body2 body1).name name2))
same-refused b BadName BadTag (p1, short1, body1, no1) (p2, short2, body2, (name2, version2, bad2, no2)) = absurd (no1 (subst IsName (same-parts b p2 p1 body2 body1).name name2))
same-refused b BadName BadIntegrity (p1, short1, body1, no1) (p2, short2, body2, (name2, version2, tag2, no2)) = absurd (no1 (subst IsName (same-parts b p2 p1 body2 body1).name name2))
same-refused b BadName _ h k = absurd k
same-refused b BadVersion TooLarge (p1, short1, body1, (name1, no1)) large2 = absurd (too-large b large2 short1)
same-refused b BadVersion BadBody (p1, short1, body1, (name1, no1)) (short2, none2) = absurd (none2 p1 body1)
same-refused b BadVersion BadName (p1, short1, body1, (name1, no1)) (p2, short2, body2, no2) = absurd (no2 (subst IsName (same-parts b p1 p2 body1 body2).name name1))
same-refused b BadVersion BadVersion (p1, short1, body1, (name1, no1)) (p2, short2, body2, (name2, no2)) = refl
same-refused b BadVersion RangeTag (p1, short1, body1, (name1, no1)) (p2, short2, body2, (name2, version2, range2)) = absurd (no1 (subst IsVersion (same-parts b p2 p1 body2 body1).version version2))
same-refused b BadVersion BadTag (p1, short1, body1, (name1, no1)) (p2, short2, body2, (name2, version2, bad2, no2)) = absurd (no1 (subst IsVersion (same-parts b p2 p1 body2 body1).version version2))
same-refused b BadVersion BadIntegrity (p1, short1, body1, (name1, no1)) (p2, short2, body2, (name2, version2, tag2, no2)) = absurd (no1 (subst IsVersion (same-parts b p2 p1 body2 body1).version version2))
same-refused b BadVersion _ h k = absurd k
same-refused b RangeTag TooLarge (p1, short1, body1, (name1, version1, range1)) large2 = absurd (too-large b large2 short1)
same-refused b RangeTag BadBody (p1, short1, body1, (name1, version1, range1)) (short2, none2) = absurd (none2 p1 body1)
same-refused b RangeTag BadName (p1, short1, body1, (name1, version1, range1)) (p2, short2, body2, no2) = absurd (no2 (subst IsName (same-parts b p1 p2 body1 body2).name name1))
same-refused b RangeTag BadVersion (p1, short1, body1, (name1, version1, range1)) (p2, short2, body2, (name2, no2)) = absurd (no2 (subst IsVersion (same-parts b p1 p2 body1 body2).version version1))
same-refused b RangeTag RangeTag (p1, short1, body1, (name1, version1, range1)) (p2, short2, body2, (name2, version2, range2)) = refl
same-refused b RangeTag BadTag (p1, short1, body1, (name1, version1, range1)) (p2, short2, body2, (name2, version2, bad2, no2)) = absurd (no2 (subst IsRangeText (same-tag b p1 p2 body1 body2) range1))
same-refused b RangeTag BadIntegrity (p1, short1, body1, (name1, version1, range1)) (p2, short2, body2, (name2, version2, tag2, no2)) = absurd (tag2.1 (subst IsRangeText (same-tag b p1 p2 body1 body2) range1))
same-refused b RangeTag _ h k = absurd k
same-refused b BadTag TooLarge (p1, short1, body1, (name1, version1, bad1, no1)) large2 = absurd (too-large b large2 short1)
same-refused b BadTag BadBody (p1, short1, body1, (name1, version1, bad1, no1)) (short2, none2) = absurd (none2 p1 body1)
same-refused b BadTag BadName (p1, short1, body1, (name1, version1, bad1, no1)) (p2, short2, body2, no2) = absurd (no2 (subst IsName (same-parts b p1 p2 body1 body2).name name1))
same-refused b BadTag BadVersion (p1, short1, body1, (name1, version1, bad1, no1)) (p2, short2, body2, (name2, no2)) = absurd (no2 (subst IsVersion (same-parts b p1 p2 body1 body2).version version1))
same-refused b BadTag RangeTag (p1, short1, body1, (name1, version1, bad1, no1)) (p2, short2, body2, (name2, version2, range2)) = absurd (no1 (subst IsRangeText (same-tag b p2 p1 body2 body1) range2))
same-refused b BadTag BadTag (p1, short1, body1, (name1, version1, bad1, no1)) (p2, short2, body2, (name2, version2, bad2, no2)) = refl
same-refused b BadTag BadIntegrity (p1, short1, body1, (name1, version1, bad1, no1)) (p2, short2, body2, (name2, version2, tag2, no2)) = absurd (false≢true (sym bad1 ∙ (ap is_tag (sym (same-tag b p2 p1 body2 body1)) ∙ tag2.0)))
same-refused b BadTag _ h k = absurd k
same-refused b BadIntegrity TooLarge (p1, short1, body1, (name1, version1, tag1, no1)) large2 = absurd (too-large b large2 short1)
same-refused b BadIntegrity BadBody (p1, short1, body1, (name1, version1, tag1, no1)) (short2, none2) = absurd (none2 p1 body1)
same-refused b BadIntegrity BadName (p1, short1, body1, (name1, version1, tag1, no1)) (p2, short2, body2, no2) = absurd (no2 (subst IsName (same-parts b p1 p2 body1 body2).name name1))
same-refused b BadIntegrity BadVersion (p1, short1, body1, (name1, version1, tag1, no1)) (p2, short2, body2, (name2, no2)) = absurd (no2 (subst IsVersion (same-parts b p1 p2 body1 body2).version version1))
same-refused b BadIntegrity RangeTag (p1, short1, body1, (name1, version1, tag1, no1)) (p2, short2, body2, (name2, version2, range2)) = absurd (tag1.1 (subst IsRangeText (same-tag b p2 p1 body2 body1) range2))
same-refused b BadIntegrity BadTag (p1, short1, body1, (name1, version1, tag1, no1)) (p2, short2, body2, (name2, version2, bad2, no2)) = absurd (false≢true (sym bad2 ∙ (ap is_tag (sym (same-tag b p1 p2 body1 body2)) ∙ tag1.0)))
same-refused b BadIntegrity BadIntegrity (p1, short1, body1, (name1, version1, tag1, no1)) (p2, short2, body2, (name2, version2, tag2, no2)) = refl
same-refused b BadIntegrity _ h k = absurd k
same-refused b _ t h k = absurd h

-- a publication of another package has a form, and is refused as a bad body
form-refused : (b : Text) (r : Refusal) (f : FormParts) → IsFormOf b f → IsRefusedBody b r → r ≡ BadBody
form-refused b TooLarge f is large = absurd (too-large b large is.short)
form-refused b BadBody f is h = refl
form-refused b BadName f is (p, short, body, bad) = absurd (bad (subst IsName (same-parts b is.parts p is.body body).name is.name.1))
form-refused b BadVersion f is (p, short, body, (name, bad)) = absurd (bad (subst IsVersion (same-parts b is.parts p is.body body).version (f.version, is.version)))
form-refused b RangeTag f is (p, short, body, (name, version, range)) = absurd (is.tag.1.1 (subst IsRangeText (same-tag b p is.parts body is.body) range))
form-refused b BadTag f is (p, short, body, (name, version, bad, range)) = absurd (false≢true (sym bad ∙ (ap is_tag (same-tag b p is.parts body is.body) ∙ is.tag.1.0)))
form-refused b BadIntegrity f is (p, short, body, (name, version, tag, bad)) =
    let same = same-parts b p is.parts body is.body in
    let here : has_integrity (integrity_text p.archive) p.manifest ≡ true = rw (same.archive, same.manifest, ← is.integrity.0) is.integrity.1 in
    absurd (false≢true (sym bad ∙ here))
form-refused b _ f is h = absurd h

refusal-is : (x r : Refusal) → ◌≡◌ {A = Stop} (Refuses r) (Refuses x) → r ≡ x
refusal-is x r e = cc

pub refusal-form : (p body : Text) (r t : Refusal) → reads_form p body (Err (Refuses r)) → reads_form p body (Err (Refuses t)) → r ≡ t
unfolding reads_form
refusal-form p body r t (inl h) (inl k) = same-refused body r t h k
refusal-form p body r t (inl h) (inr (e, (f, is, other))) = form-refused body r f is h ∙ sym (refusal-is BadBody t e)
refusal-form p body r t (inr (e, (f, is, other))) (inl k) = refusal-is BadBody r e ∙ sym (form-refused body t f is k)
refusal-form p body r t (inr (e, (f, is, other))) (inr (g, more)) = refusal-is BadBody r e ∙ sym (refusal-is BadBody t g)
