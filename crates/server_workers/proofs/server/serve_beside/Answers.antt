use denote.Param.Send.{sendable}
use Rattle.server_workers.proofs.server.serve_beside.Goals as goal

-- The workers' closure asks that the types of its bounds may cross to other threads.
pub join-requires-after_bounds : goal.join-requires-after_bounds
join-requires-after_bounds g c κs within = (
  tt,
  (
    search sendable depth 20,
    search sendable depth 20,
    search sendable depth 20,
    search sendable depth 20,
    search sendable depth 20,
    search sendable depth 20,
    search sendable depth 20,
    search sendable depth 20,
    search sendable depth 20,
    search sendable depth 20,
  ),
)
