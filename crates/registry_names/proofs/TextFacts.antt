-- Laws of the order and of the equality of texts.
use Rattle.std.proofs.Common.{◌≡◌, true, refl, sym, Equal, is_eq}
use Rattle.std.specs.Cmp.{IsTotalOrder}
use Rattle.std.specs.Cmp.Lexicographic.{bytes_decides, nat_list_cmp_total, texts_ties}
use Rattle.std.proofs.lemmas.Bool.Decides.{same_from_decides}
use Rattle.std.proofs.lemmas.Map.Lookups.{exact_bytes}
use Rattle.registry_names.specs.Texts.{Text, text_cmp, is}

-- the order of texts is total
pub text_total : IsTotalOrder text_cmp
text_total = nat_list_cmp_total

-- texts that the order ties are one
pub text_exact : (a b : Text) → text_cmp a b ≡ Equal → a ≡ b
text_exact = exact_bytes

pub is_true : (a b : Text) → is a b ≡ true → a ≡ b
unfolding is
is_true a b e = (bytes_decides a b).0 e

pub is_same : (a b : Text) → a ≡ b → is a b ≡ true
unfolding is
is_same a b e = (bytes_decides a b).1 e

pub is_self : (a : Text) → is a a ≡ true
is_self a = is_same a a refl

pub is_sym : (a b : Text) → is a b ≡ is b a
unfolding is
is_sym a b = same_from_decides (is a b) (is b a) (bytes_decides a b) ((λ e. sym (is_true b a e)), λ e. is_same b a (sym e))

-- the test holds just where the order ties
pub is_tie : (a b : Text) → is a b ≡ is_eq (text_cmp a b)
unfolding is
is_tie a b = texts_ties a b
