use Rattle.std.proofs.Common.{ℕ, List, [], sym, ap}
use Rattle.std.specs.Prelude.{slice_index_or}
use Rattle.layout.specs.Hash.{hash}
use Rattle.layout.specs.Ascending.{Stands, IsFree}
use Rattle.client_tree.specs.Held.{Block, by_bytes, digest_of}
use Rattle.client_tree.proofs.HeldLaws.{held-Stands, kept_already, kept_new, are_inserted}
use Rattle.client_tree.proofs.held.put.Goals as goal

pub returns-in-Ok-clause-kept : goal.returns-in-Ok-clause-kept
returns-in-Ok-clause-kept g c =
    let old = c.args.blocks.now.items in
    let text = c.args.text.items in
    let stands : Stands by_bytes digest_of old (hash text) c.in-Ok.field-0 = rw (c.requires.hashed, c.deref.ensures.value) at c.in-Ok.ensures in
    let none : Block = record { digest = []; text = [] } in
    sym (kept_already old text (slice_index_or old c.in-Ok.field-0 none).text (held-Stands old (hash text) c.in-Ok.field-0 none stands))

pub returns-in_ok-insert-in-Err-clause-kept : goal.returns-in_ok-insert-in-Err-clause-kept
returns-in_ok-insert-in-Err-clause-kept g c =
    let old = c.args.blocks.now.items in
    let text = c.args.text.items in
    let free : IsFree by_bytes digest_of old (hash text) c.in-Err.place = rw (c.requires.hashed, c.deref.ensures.value) at c.in-Err.ensures in
    kept_new old c.insert.new.self.items c.in-Err.place (record { digest = c.args.digest; text = text }) text free (ap (λ (d : List ℕ). record { digest = d; text = text }) c.requires.hashed) c.in_ok-insert-in-Err.ensures.items

pub returns-in_ok-insert-in-Err-clause-held : goal.returns-in_ok-insert-in-Err-clause-held
returns-in_ok-insert-in-Err-clause-held g c =
    let old = c.args.blocks.now.items in
    let text = c.args.text.items in
    let free : IsFree by_bytes digest_of old (hash text) c.in-Err.place = rw (c.requires.hashed, c.deref.ensures.value) at c.in-Err.ensures in
    are_inserted old c.insert.new.self.items c.in-Err.place (record { digest = c.args.digest; text = text }) text free (ap (λ (d : List ℕ). record { digest = d; text = text }) c.requires.hashed) c.in_ok-insert-in-Err.ensures.items c.requires.held
