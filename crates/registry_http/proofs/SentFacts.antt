-- A packument that a registry sent is one that its service sent.
use Rattle.std.proofs.Common.{ℕ, Bool, true, false, List, Option, Err}
use Rattle.registry_names.specs.Texts.{Text}
use Rattle.registry_names.specs.declared.stop.Fault.{Fault}
use Rattle.registry_packument.specs.declared.opener.Sent.{Sent}
use Rattle.registry_packument.specs.declared.opener.Sent.TheVariants.{Refused, Whole, WriteFault, Broken}
use Rattle.registry_rules.specs.declared.request.Request.{Request}
use Rattle.sqlite.specs.Held.{Held, state}
use Rattle.sqlite_trees.specs.declared.store.Store.{Ghosts}
use Rattle.registry_laws_history.specs.Runs.{Outcome}
use Rattle.registry_desk.specs.Promises.{Applied}
use Rattle.registry_desk.specs.Sending as desk
use Rattle.registry_desk.specs.Sending.{answers_as_apply}
use Rattle.registry_service.specs.Sendings.{MayAnswer, Sends}
use Rattle.registry_http.specs.Services.{applied, serving, shown}
use Rattle.registry_http.proofs.LookFacts.{IsLookedAt, leaves-alone, looked-applies}

module _ {D E : Type 0} (A : D → Request → Outcome → D → Type 0) (B : E → Request → Outcome → E → Type 0) (opens : ℕ → List ℕ) (M : D) (K : E) (r : Request) (a b : Option (List ℕ)) (s : Bool) where
  -- what one asks for is led over to what the other asks for
  module _ (N : D) (L : E) (lead : (o : Outcome) → A M r o N → B K r o L) (may : (text : Text) (fault : Fault) → desk.MayAnswer A M r text fault N → MayAnswer B K r text fault L) where
    pub leads : (sent : Sent) → desk.Sends A opens M r sent N a b s → Sends B opens K r sent L a b s
    leads (Refused why) it = (lead _ it.0, it.1)
    leads Whole it = (it.0, lead _ it.1, it.2)
    leads WriteFault it = (it.0, lead _ it.1, it.2)
    leads (Broken fault false) it = (lead _ it.0, it.1)
    leads (Broken fault true) it = (lead _ it.0, (it.1.0, may it.1.0 fault it.1.1, it.1.2))

-- ---- a registry that is served

module _ {S : Type 0} (store : Ghosts S) (opens : ℕ → List ℕ) (M : Held S) (was : Bool) (r : Request) (a b : Option (List ℕ)) (s : Bool) (N : Held S) (is : Bool) where
  may_serve : (text : Text) (fault : Fault) → MayAnswer (answers_as_apply store) M r text fault N → MayAnswer (applied (shown store)) (serving M was) r text fault (serving N is)
  may_serve text fault (K, begun, broken) = (serving K false, begun.0, broken.0)

  -- what its registry sent is what the service sent
  pub serves : (sent : Sent) → Sends (answers_as_apply store) opens M r sent N a b s → Sends (applied (shown store)) opens (serving M was) r sent (serving N is) a b s
  serves (Refused why) (it, wrote) = (it.0, wrote)
  serves Whole (text, it, wrote) = (text, it.0, wrote)
  serves WriteFault (text, it, wrote) = (text, it.0, wrote)
  serves (Broken fault false) (it, wrote) = (it.0, wrote)
  serves (Broken fault true) (it, (text, may, wrote)) = (it.0, (text, may_serve text fault may, wrote))

  -- and so it is where the registry is looked at after a fault, and another is told
  module _ (mid : Held S) (met told : Fault) (look : IsLookedAt (state store mid) (state store N)) where
    after_look : (old : Held S) → answers_as_apply store old r (Err met) mid → Applied (state store old) (state store N) r (Err told)
    after_look old it = looked-applies (state store mid) (state store N) look (state store old) r met told (leaves-alone (state store old) (state store mid) r it.1) it.0

    pub serves_after : (has_started : Bool) → Sends (answers_as_apply store) opens M r (Broken met has_started) mid a b s → Sends (applied (shown store)) opens (serving M was) r (Broken told has_started) (serving N is) a b s
    serves_after false (it, wrote) = (after_look M it, wrote)
    serves_after true (it, (text, (K, begun, broken), wrote)) = (after_look M it, (text, (serving K false, begun.0, after_look K broken), wrote))
