use Rattle.std.proofs.Common.{◌≡◌, List, is_some, subst, sym, true}
use Rattle.clap.specs.Walk.{Text}
use Rattle.registry_cli.proofs.ActionFacts.{verb_is}
use Rattle.registry_cli.specs.Asked.{verb_of}
use Rattle.registry_cli.specs.Lines.{argument_at}
use Rattle.registry_cli.proofs.action.action_of.Goals as goal

pub action-requires : goal.action-requires
action-requires c = subst (λ (arguments : List Text). is_some (verb_of (argument_at arguments 0)) ≡ true) (sym c.as_slice.ensures) (verb_is c.args.line.now.what c.requires.whole c.requires.asks)
