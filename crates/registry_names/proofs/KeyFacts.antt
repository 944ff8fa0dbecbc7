-- Keys of one, two and three texts are keys, and what follows for any key.
use Rattle.std.proofs.Common.{◌≡◌, Bool, true, false, ◌&&◌, refl, sym, ap, ap₂, ◌∙◌, true≢false, Ordering, Less, Equal, Greater, is_eq}
use Rattle.std.specs.Ordering.{ordering_then, eq_by_cmp}
use Rattle.std.specs.Cmp.{Equal-is, eq_by_cmp_equiv, tied_itself, on_total, then_total}
use Rattle.std.proofs.lemmas.Map.Lookups.{exact_pairs}
use Rattle.registry_names.specs.Texts.{Text, text_cmp, is}
use Rattle.registry_names.specs.Keys.{by_first, both, pair_cmp, pair_is, triple_cmp, triple_is, IsKey}
use Rattle.registry_names.proofs.TextFacts.{text_total, text_exact, is_tie}

pub text_key : IsKey text_cmp is
text_key = record { total = text_total; exact = text_exact; test = is_tie }

both_tie : (o r : Ordering) → is_eq (ordering_then o r) ≡ (is_eq o && is_eq r)
both_tie Less r = refl
both_tie Equal r = refl
both_tie Greater r = refl

-- a text before a key is a key
pub first_key : {R : Type 0} {cmp : R → R → Ordering} {same : R → R → Bool} → IsKey cmp same → IsKey (by_first cmp) (both same)
unfolding by_first
first_key {R} {cmp} {same} rest = record {
  total = then_total (on_total (λ (k : Text × R). k.0) text_total) (on_total (λ (k : Text × R). k.1) rest.total);
  exact = exact_pairs text_cmp cmp text_exact rest.exact;
  test = λ a b. ap₂ (λ x y. x && y) (is_tie a.0 b.0) (rest.test a.1 b.1) ∙ sym (both_tie (text_cmp a.0 b.0) (cmp a.1 b.1));
}

pub pair_key : IsKey pair_cmp pair_is
pair_key = first_key text_key

pub triple_key : IsKey triple_cmp triple_is
triple_key = first_key pair_key

module _ {K : Type 0} {cmp : K → K → Ordering} {same : K → K → Bool} (key : IsKey cmp same) where
  pub same_true : (a b : K) → same a b ≡ true → a ≡ b
  same_true a b e = key.exact a b ((Equal-is (cmp a b)).0 (sym (key.test a b) ∙ e))

  pub same_self : (a : K) → same a a ≡ true
  same_self a = key.test a a ∙ ap is_eq (tied_itself key.total a)

  pub same_sym : (a b : K) → same a b ≡ same b a
  same_sym a b = key.test a b ∙ (eq_by_cmp_equiv key.total).symm a b ∙ sym (key.test b a)

  -- the test that a look-up in a map makes
  pub look_up_test : (asked stored : K) → eq_by_cmp cmp asked stored ≡ same stored asked
  look_up_test asked stored = sym (key.test asked stored) ∙ same_sym asked stored

  -- two keys that differ are not both the same as a third
  pub never_both : (q r k : K) → same q r ≡ false → same r k ≡ true → same q k ≡ true → ⊥
  never_both q r k differ e f = true≢false (sym (ap₂ same (same_true q k f) (same_true r k e) ∙ same_self k) ∙ differ)
