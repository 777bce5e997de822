-- A session that a new one follows ends like any other. Assumes nothing.
use mathlib.Core.Path.{◌≡◌, ap}
use Rattle.limits.specs.Limits.{limit_least}
use Rattle.antenna.specs.declared.Motion.{Motion}
use Rattle.antenna.specs.Motions.{moves}
use Rattle.antenna.proofs.Movements.{unowed-twice}
use Rattle.record.specs.declared.Link.TheVariants.{Connected}
use Rattle.record.specs.declared.Device.{Device}
use Rattle.record.specs.Changes.{unsaid_at, emptied_as, ended_as}
use Rattle.states.specs.States.{new_session, begun, released, renewed}

pub renewed-ends : (d : Device) → renewed d ≡ ended_as d d.station.desk.address (Connected new_session)
unfolding renewed begun released emptied_as unsaid_at moves
renewed-ends d =
    ap
    (λ (m : Motion). record {
      plate = d.plate;
      station = unsaid_at d.station d.station.desk.address limit_least (Connected new_session);
      antenna = moves d.antenna m;
    })
    (unowed-twice d.antenna.motion)
