-- What an honest run is promised by the dialogue that it follows: no rule is broken, calls are answered, and lines are
-- beginnings of what was placed.
use Rattle.std.proofs.Common.{List, IfSome, sym, subst}
use Rattle.std.specs.List.{All}
use Rattle.layout.specs.Types.{Bytes}
use Rattle.agreement.specs.Runs.{View}
use Rattle.agreement.specs.Lines.{IsBeginning, line}
use Rattle.agreement.proofs.Members.{In, in_contains}
use Rattle.client_runs.specs.Released.{hashed, views}
use Rattle.client_runs.specs.Runs.{Event, Keys, pinned}
use Rattle.consistency_server.specs.Answers.{Call as ServerCall}
use Rattle.fork_consistency.specs.Premises.{NoCollision}
use Rattle.fork_consistency.proofs.ByCertificates.{SuperIsHonest, first_in}
use Rattle.honest_history.specs.Honest.{Naming}
use Rattle.honest_history.specs.Placed.{placed}
use Rattle.honest_dialogues.specs.Dialogue.{views as shown_views}
use Rattle.honest_dialogues.proofs.Dialogues.{one_line}
use Rattle.honest_runs.specs.HonestRuns.{HonestEvent, IsHonestRun, events, history}
use Rattle.honest_runs.proofs.Events.{are_runs}
use Rattle.honest_line.specs.Naming.{naming_of}
use Rattle.honest_line.specs.Answered.{AreAnswered}
use Rattle.honest_line.specs.OneLine.{IsUnbroken}
use Rattle.honest_line.proofs.Naming.{IsAssumed, all_hashed, is_naming, one_named, signed_named, super_is_honest}
use Rattle.honest_line.proofs.Blocks.{IsGoodRun, apart_hashed, no_block_refused}
use Rattle.honest_line.proofs.Promises.{each}
use Rattle.honest_line.proofs.Simulated.{Grounds, KeepsTo, Simulates, simulates}

module _ (keys : Keys) (run : List HonestEvent) (is : IsHonestRun keys run) (p : IsAssumed keys run) where
  abbrev es : List Event
  es = events run

  abbrev pub naming : Naming
  naming = naming_of keys es

  abbrev pub texts : List Bytes
  texts = hashed keys es

  pub apart : NoCollision keys (events run)
  apart = apart_hashed keys run p.no_collision

  honest : SuperIsHonest keys es
  honest = super_is_honest keys run is apart p.true_keys

  pub grounds : Grounds keys naming texts
  grounds = record {
    signers = p.signers;
    is_naming = is_naming keys es (are_runs keys run is) honest;
    apart = apart;
    first_in = first_in keys es (are_runs keys run is) honest;
    one_named = one_named keys es (are_runs keys run is) honest;
  }

  pub keeps : KeepsTo keys naming texts es
  keeps = record {
    is_run = are_runs keys run is;
    hashed_in = all_hashed keys es;
    covers = signed_named keys es (are_runs keys run is) honest;
  }

  pub simulated : Simulates keys naming texts grounds (history run) es
  simulated = simulates keys naming texts grounds run is keeps

  pub line_of : (x : View) → In x (views es) → IsBeginning (line (views es) x) (placed (pinned keys) (history run))
  line_of x i =
      let s = simulated in
      let there = subst (λ (vs : List View). In x vs) (sym s.views_are) i in
      let begins = (one_line (pinned keys) naming grounds.is_naming s.moves s.is).lines x (in_contains x (shown_views s.moves) there) in
      subst (λ (vs : List View). IsBeginning (line vs x) (placed (pinned keys) (history run))) s.views_are
      (subst (λ (cs : List ServerCall). IsBeginning (line (shown_views s.moves) x) (placed (pinned keys) cs)) s.calls_are begins)

  pub good : IsGoodRun keys run
  good = record { is_run = is; apart = p.no_collision; true_keys = p.true_keys }

  pub promised : All (λ h. IfSome h.step (λ s. IsUnbroken s.call)) run × AreAnswered keys run
  promised = each keys naming texts grounds run is keeps (no_block_refused keys run good)
