-- A user's last structure is the one that stands among the latest.
use Rattle.std.proofs.Common.{◌≡◌, ℕ, false, List, Option, Some, sym, ap, ◌∙◌}
use Rattle.std.specs.Prelude.{◌==◌, find}
use Rattle.std.specs.Option.{option_copied, option_map_or}
use Rattle.std.specs.Str.{bytes_eq}
use Rattle.version_order.specs.Plan.{Plan}
use Rattle.version_order.specs.Structure.{Structure, structure}
use Rattle.pending_list.specs.declared.signed.Signed.{Signed}
use Rattle.pending_list.specs.Signed.{signed}
use Rattle.consistency_server.specs.State.{State}
use Rattle.consistency_server.specs.Answers.{same_structure, structure_of}
use Rattle.consistency_server.proofs.state.State.is_last.Goals as goal

pub returns-in-Some : goal.returns-in-Some
returns-in-Some g c =
    let state = c.args.self.now in
    let found = c.args.found.now in
    let last = c.in-Some.last.now in
    let user : c.user.result ≡ found.value.plan.user = c.user.ensures.same ∙ ap (λ (p : Plan). p.user) c.plan.ensures.same in
    let rows : c.deref.result.now ≡ state.structures = c.deref.ensures.value ∙ ap (λ (s : State). s.structures) c.self.view_is in
    let is : Some last ≡ structure_of found.value.plan.user state
    = sym (ap option_copied c.in-Some.is) ∙ c.structure_of.ensures
    ∙ ap (λ (ss : List (Signed Structure)). find (λ s. s.value.plan.user == c.user.result) ss) rows
    ∙ ap (λ (u : ℕ). find (λ s. s.value.plan.user == u) state.structures) user in
    let text : bytes_eq c.args.text.now ((signed structure).spell last) ≡ option_map_or (same_structure found) (structure_of found.value.plan.user state) false
    = ap (λ (t : List ℕ). bytes_eq t ((signed structure).spell last)) c.requires ∙ ap (λ (o : Option (Signed Structure)). option_map_or (same_structure found) o false) is in
    c.is_spelled.ensures ∙ text
