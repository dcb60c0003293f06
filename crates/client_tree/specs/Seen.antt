-- What is seen at an i-number.
use Rattle.std.specs.Prelude.{Option, Some, None}
use Rattle.update_cert.specs.World.{Content, File, Directory}
use Rattle.client_tree.specs.declared.contents.Seen.{Seen}
use Rattle.client_tree.specs.declared.contents.Seen.TheVariants as seen

-- a look's answer, without where it lies in memory
abbrev pub content_seen : {A : Type 0} → Seen A → Option Content
content_seen seen.Nothing = None
content_seen (seen.File bytes) = Some (File bytes.items)
content_seen (seen.Directory entries) = Some (Directory entries)
