use Rattle.wire.proofs.Streams.{stream_in_frames, cut_anyhow, fault_for_good}
use Rattle.wire.proofs.laws.streams_are_cut_anyhow.Goals as goal

pub returns-clause-stream : goal.returns-clause-stream
returns-clause-stream c = stream_in_frames

pub returns-clause-same : goal.returns-clause-same
returns-clause-same c = cut_anyhow

pub returns-clause-fault : goal.returns-clause-fault
returns-clause-fault c = fault_for_good
