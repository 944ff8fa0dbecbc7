use Rattle.std.proofs.Common.{◌∙◌, List, ℕ, IsUtf8, subst, sym}
use Rattle.registry_guests.proofs.TextFacts.{texts-all, texts-more, utf8-all, utf8-at, utf8-more}
use Rattle.registry_guests.proofs.turning.texts.Goals as goal

pub returns-in_default-clause-none : goal.returns-in_default-clause-none
returns-in_default-clause-none c = λ all.
    c.in_default.ensures.cases.0 (subst (λ (t : List ℕ). IsUtf8 t) (sym c.deref.ensures.value) (utf8-at c.args.words.now c.loop-word.word-index c.word-item.result c.loop-word-test.true c.word-item.is all))

pub loop-word-preserved : goal.loop-word-preserved
loop-word-preserved c =
    let ws = c.args.words.now in
    let i = c.loop-word.word-index in
    let is = c.in-Ok.ensures.cases in
    record {
      texts = texts-more ws i c.word-item.result _ _ _ c.loop-word-test.true c.word-item.is c.loop-word.invariant.texts c.in_ok-push.ensures.items (c.in_ok-from_str.ensures ∙ is.0 ∙ c.deref.ensures.value);
      utf8 = utf8-more ws i c.word-item.result c.loop-word-test.true c.word-item.is c.loop-word.invariant.utf8 (subst (λ (t : List ℕ). IsUtf8 t) c.deref.ensures.value is.1);
    }

pub returns-clause-some : goal.returns-clause-some
returns-clause-some c = (
  texts-all c.args.words.now c.loop-word.word-index _ c.loop-word-test.false c.loop-word.invariant.texts,
  utf8-all c.args.words.now c.loop-word.word-index c.loop-word-test.false c.loop-word.invariant.utf8,
)
