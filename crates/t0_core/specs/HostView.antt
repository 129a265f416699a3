-- How contracts see the fields of a terminal's end.
use Rattle.std.specs.Prelude.{ℕ, List, []}
use Rattle.t0_core.specs.declared.host_end.HostStage.{HostStage}
use Rattle.t0_core.specs.declared.request.Transfer.{Transfer}
use Rattle.t0_core.specs.declared.request.Transfer.TheVariants.{Sending, Asking}
use Rattle.t0_core.specs.declared.request.Request.{Request}
use Rattle.t0_core.specs.declared.direction.Direction.{Direction}
use Rattle.t0_core.specs.declared.direction.Direction.TheVariants.{ToCard, FromCard}
use Rattle.t0_core.specs.HostSide.{Hosting}

abbrev pub direction_of : Transfer → Direction
direction_of (Sending content) = ToCard
direction_of Asking = FromCard

abbrev pub content_of : Transfer → List ℕ
content_of (Sending content) = content.now
content_of Asking = []

abbrev pub host_of : Request → HostStage → Hosting
host_of request stage =
    record {
      header = request.header;
      p3 = request.p3;
      direction =
          direction_of request.transfer;
      content = content_of request.transfer;
      stage = stage;
    }
