use Rattle.registry_tables.proofs.Words.{◌≡◌, ◌+◌, suc, ◌<◌, ◌∙◌, ℕ, List, [], Bor, ap, arith, get_or, length, map, subst, sym, get_or-map, length-map, Wrote, stays_then, shown, HasMade, HasRun}
use Rattle.registry_tables.specs.Creation.{creation}
use Rattle.registry_tables.proofs.SchemaFacts.{creation_length}
use Rattle.registry_tables.proofs.CreationFacts.{makes_next, refuses_next}
use Rattle.registry_tables.proofs.schema.create_tables.Goals as goal

-- the text at this place
text_at : (texts : List (Bor (List ℕ))) (i : ℕ) (d : Bor (List ℕ)) → map (λ text. text.now) texts ≡ creation → i < length texts → (get_or texts i d).now ≡ get_or creation i []
text_at texts i d same within = sym (get_or-map (λ text. text.now) texts i d [] within) ∙ ap (λ sqls. get_or sqls i []) same

as_many : (texts : List (Bor (List ℕ))) → map (λ text. text.now) texts ≡ creation → length texts ≡ length creation
as_many texts same = sym (length-map texts (λ text. text.now)) ∙ ap length same

pub loop-text-preserved : goal.loop-text-preserved
loop-text-preserved g c =
    let within : c.loop-text.text-index < length creation = omega (arith, as_many c.args.texts.now c.requires.texts, c.loop-text-test.true) in
    let call : Wrote (get_or creation c.loop-text.text-index []) [] (shown g.S.Store c.loop-text.tx) (shown g.S.Store c.write.new.tx) =
    subst (λ sql. Wrote sql [] (shown g.S.Store c.loop-text.tx) (shown g.S.Store c.write.new.tx)) (text_at c.args.texts.now c.loop-text.text-index _ c.requires.texts c.loop-text-test.true) c.in_ok-write.ensures.wrote in
    let next : suc c.loop-text.text-index ≡ c.loop-text.text-index + 1 = omega arith in
    let ran : HasRun g.S.Store (suc c.loop-text.text-index) c.args.tx.now c.write.new.tx = (c.loop-text.tx, c.loop-text.invariant.ran, call) in
    record {
      ran = subst (λ n. HasRun g.S.Store n c.args.tx.now c.write.new.tx) next ran;
      stays = stays_then g.S.Store c.args.tx.now c.loop-text.tx c.write.new.tx c.loop-text.invariant.stays c.write.ensures.stays;
      idle = λ e. absurd (omega (arith, e));
      made = λ _. makes_next g.S.Store c.loop-text.text-index c.args.tx.now c.loop-text.tx c.write.new.tx within c.loop-text.invariant.idle c.loop-text.invariant.made call;
      refused = λ _. refuses_next g.S.Store c.loop-text.text-index c.args.tx.now c.loop-text.tx c.write.new.tx c.loop-text.invariant.idle c.loop-text.invariant.refused call;
    }

pub returns-clause-made : goal.returns-clause-made
returns-clause-made g c none =
    let all : c.loop-text.text-index ≡ 24 = omega (arith, as_many c.args.texts.now c.requires.texts, creation_length, c.loop-text.auto.text-index-end, c.loop-text-test.false) in
    subst (λ n. HasMade g.S.Store n c.loop-text.tx) all (c.loop-text.invariant.made (omega (arith, all)) none)

pub returns-clause-refused : goal.returns-clause-refused
returns-clause-refused g c form clean =
    absurd (c.loop-text.invariant.refused (omega (arith, as_many c.args.texts.now c.requires.texts, creation_length, c.loop-text-test.false)) form clean)

pub returns-clause-ran : goal.returns-clause-ran
returns-clause-ran g c =
    let all : c.loop-text.text-index ≡ length creation = omega (arith, as_many c.args.texts.now c.requires.texts, c.loop-text.auto.text-index-end, c.loop-text-test.false) in
    subst (λ n. HasRun g.S.Store n c.args.tx.now c.loop-text.tx) all c.loop-text.invariant.ran
