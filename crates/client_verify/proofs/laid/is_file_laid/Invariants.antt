use Rattle.std.proofs.Common.{◌≡◌, ◌&&◌, drop}
use Rattle.std.specs.List.{list_any}
use Rattle.std.specs.Str.{bytes_eq}
use Rattle.layout.specs.Hash.{hash}
use Rattle.client_verify.specs.Laid.{is_file_laid, is_whole_file}
use Rattle.client_verify.proofs.laid.is_file_laid.Given as goal

abbrev pub invariant-loop-text : goal.invariant-loop-text
invariant-loop-text g l =
    list_any (λ text. bytes_eq (hash text) l.digest && is_whole_file l.laid text) (drop l.text-index l.laid) ≡ is_file_laid l.laid l.digest
