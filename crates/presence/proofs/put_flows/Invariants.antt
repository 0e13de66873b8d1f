-- `presence::put_flows` meets its contract.
use Rattle.std.proofs.Common.{◌≡◌, ◌++◌, take, drop}
use Rattle.presence.specs.Form.{flows_of}
use Rattle.presence.proofs.put_flows.Given as goal

abbrev pub invariant-loop-i : goal.invariant-loop-i
invariant-loop-i l = take l.i l.flows ++ flows_of (drop l.i l.days) ≡ flows_of l.days
