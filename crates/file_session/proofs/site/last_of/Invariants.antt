use Rattle.std.proofs.Common.{◌≡◌, length}
use denote.Text.{Utf8}
use denote.Shadow.{shadow}
use Rattle.file_session.specs.Parts.{last_of}
use Rattle.file_session.proofs.Last.{last_after}
use Rattle.file_session.proofs.site.last_of.Given as goal

abbrev pub invariant-loop-name : goal.invariant-loop-name
invariant-loop-name l = shadow (Utf8 l.last) × (last_of l.fn.names ≡ last_after l.last l.names)

abbrev pub decreases-loop-name : goal.decreases-loop-name
decreases-loop-name l = length l.names
