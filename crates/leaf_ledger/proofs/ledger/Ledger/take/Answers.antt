use Rattle.std.proofs.Common.{◌≡◌, List, ℕ, refl, sym, ◌∙◌, ap, subst, arith, inr, Some, None}
use Rattle.std.proofs.lemmas.List.{length-set}
use Rattle.leaf_ledger.specs.Device.{Throughout, at_rest}
use Rattle.leaf_ledger.specs.Ledger.{LedgerState, with_mark, UsedWith, IsLeastFree, IsFileOf}
use Rattle.leaf_ledger.specs.Life.{Call}
use Rattle.leaf_ledger.proofs.Taken.{all_before, all_set, is_least, failed, failed_read, rests_after, with_it, done, has_mark, done_own, read_own, failed_own, failed_read_own, still_own, still_read_own, all_full}
use Rattle.leaf_ledger.proofs.Lives.{call_of, not_full, sure_after}
use Rattle.leaf_ledger.proofs.ledger.Ledger.take.Goals as goal

pub returns-in-Err-clause-any_moment : goal.returns-in-Err-clause-any_moment
returns-in-Err-clause-any_moment g c =
    let s = c.self.inside in
    let i = c.self.invariant in
    let found = c.in-Some.ensures.found in
    let usable = ap (λ (l : LedgerState). l.usable) c.self.view_is ∙ c.requires in
    failed s.key s.marks c.in-Some.number i.key_size i.size found.1 found.2 (all_before s.marks s.next c.in-Some.number i.used found.3)
    c.args.self.now.file (g.D.Device.history s.device) (ap (λ (l : LedgerState). l.file) c.self.view_is) (i.at_rest usable) (g.D.Device.history c.write_through.new.device) c.in-Err.ensures.err

pub returns-in-Err-clause-reads : goal.returns-in-Err-clause-reads
returns-in-Err-clause-reads g c =
    let s = c.self.inside in
    let i = c.self.invariant in
    let found = c.in-Some.ensures.found in
    let usable = ap (λ (l : LedgerState). l.usable) c.self.view_is ∙ c.requires in
    failed_read s.key s.marks c.in-Some.number i.key_size i.size found.1 found.2 (all_before s.marks s.next c.in-Some.number i.used found.3)
    c.args.self.now.file (g.D.Device.history s.device) (ap (λ (l : LedgerState). l.file) c.self.view_is) (i.at_rest usable) (g.D.Device.history c.write_through.new.device) c.in-Err.ensures.err

pub invariant_of-self-2 : goal.invariant_of-self-2
invariant_of-self-2 g c =
    let s = c.self.inside in
    let i = c.self.invariant in
    let n = c.in-Some.number in
    let found = c.in-Some.ensures.found in
    let front = all_before s.marks s.next n i.used found.3 in
    record {
      key_size = i.key_size;
      size = length-set s.marks n 1 ∙ i.size;
      next_in = omega (arith, found.1, i.size);
      few = omega (arith, i.few, found.0);
      used = all_set s.marks n found.1 front;
      at_rest = λ usable. rests_after s.key s.marks n i.key_size i.size found.1 found.2 front (g.D.Device.history s.device) (g.D.Device.history s.device) refl (i.at_rest usable) (g.D.Device.history c.write_through.new.device) c.in_default-write_through.ensures.ok;
    }

pub returns-clause-leaf : goal.returns-clause-leaf
returns-clause-leaf g c =
    let s = c.self.inside in
    let i = c.self.invariant in
    let found = c.in-Some.ensures.found in
    let usable = ap (λ (l : LedgerState). l.usable) c.self.view_is ∙ c.requires in
    subst (λ (n : ℕ). IsLeastFree c.args.self.now.file.now.text n) (sym c.issue.ensures.number) (is_least s.key s.marks c.in-Some.number i.key_size i.size found.1 found.2 (all_before s.marks s.next c.in-Some.number i.used found.3)
    c.args.self.now.file (g.D.Device.history s.device) (ap (λ (l : LedgerState). l.file) c.self.view_is) (i.at_rest usable))

pub returns-clause-used : goal.returns-clause-used
returns-clause-used g c =
    let s = c.self.inside in
    let i = c.self.invariant in
    let found = c.in-Some.ensures.found in
    let usable = ap (λ (l : LedgerState). l.usable) c.self.view_is ∙ c.requires in
    subst (λ (n : ℕ). UsedWith n c.args.self.now.file.now.text (g.D.Device.history c.write_through.new.device).now.text) (sym c.issue.ensures.number) (with_it s.key s.marks c.in-Some.number i.key_size i.size found.1 found.2 (all_before s.marks s.next c.in-Some.number i.used found.3)
    c.args.self.now.file (g.D.Device.history s.device) (ap (λ (l : LedgerState). l.file) c.self.view_is) (i.at_rest usable) (g.D.Device.history c.write_through.new.device) c.in_default-write_through.ensures.ok)

pub returns-clause-any_moment : goal.returns-clause-any_moment
returns-clause-any_moment g c =
    let s = c.self.inside in
    let i = c.self.invariant in
    let found = c.in-Some.ensures.found in
    let usable = ap (λ (l : LedgerState). l.usable) c.self.view_is ∙ c.requires in
    done s.key s.marks c.in-Some.number i.key_size i.size found.1 found.2 (all_before s.marks s.next c.in-Some.number i.used found.3)
    c.args.self.now.file (g.D.Device.history s.device) (ap (λ (l : LedgerState). l.file) c.self.view_is) (i.at_rest usable) (g.D.Device.history c.write_through.new.device) c.in_default-write_through.ensures.ok

pub returns-in-Err-clause-step : goal.returns-in-Err-clause-step
returns-in-Err-clause-step g c =
    let s = c.self.inside in
    let i = c.self.invariant in
    let n = c.in-Some.number in
    let found = c.in-Some.ensures.found in
    let usable = ap (λ (l : LedgerState). l.usable) c.self.view_is ∙ c.requires in
    let front = all_before s.marks s.next n i.used found.3 in
    let old = c.args.self.now.file in
    let mid = g.D.Device.history s.device in
    let new = g.D.Device.history c.write_through.new.device in
    let same = ap (λ (l : LedgerState). l.file) c.self.view_is in
    let least = is_least s.key s.marks n i.key_size i.size found.1 found.2 front old mid same (i.at_rest usable) in
    let some = c.in-Err.ensures.err in
    call_of None old new n (failed s.key s.marks n i.key_size i.size found.1 found.2 front old mid same (i.at_rest usable) new some n least) (failed_read s.key s.marks n i.key_size i.size found.1 found.2 front old mid same (i.at_rest usable) new some n least) tt

pub returns-clause-step : goal.returns-clause-step
returns-clause-step g c =
    let s = c.self.inside in
    let i = c.self.invariant in
    let n = c.in-Some.number in
    let found = c.in-Some.ensures.found in
    let usable = ap (λ (l : LedgerState). l.usable) c.self.view_is ∙ c.requires in
    let front = all_before s.marks s.next n i.used found.3 in
    let old = c.args.self.now.file in
    let mid = g.D.Device.history s.device in
    let new = g.D.Device.history c.write_through.new.device in
    let same = ap (λ (l : LedgerState). l.file) c.self.view_is in
    let least = is_least s.key s.marks n i.key_size i.size found.1 found.2 front old mid same (i.at_rest usable) in
    let ok = c.in_default-write_through.ensures.ok in
    let with = with_it s.key s.marks n i.key_size i.size found.1 found.2 front old mid same (i.at_rest usable) new ok in
    subst (λ (k : ℕ). Call (Some k) old new) (sym c.issue.ensures.number) (call_of (Some n) old new n (done s.key s.marks n i.key_size i.size found.1 found.2 front old mid same (i.at_rest usable) new ok n least) (inr with) (least.free, sure_after old new n _ with (rests_after s.key s.marks n i.key_size i.size found.1 found.2 front old mid same (i.at_rest usable) new ok)))

pub returns-in-Err-clause-full : goal.returns-in-Err-clause-full
returns-in-Err-clause-full g c full =
    let s = c.self.inside in
    let i = c.self.invariant in
    let n = c.in-Some.number in
    let found = c.in-Some.ensures.found in
    let usable = ap (λ (l : LedgerState). l.usable) c.self.view_is ∙ c.requires in
    let front = all_before s.marks s.next n i.used found.3 in
    let old = c.args.self.now.file in
    let mid = g.D.Device.history s.device in
    let same = ap (λ (l : LedgerState). l.file) c.self.view_is in
    let least = is_least s.key s.marks n i.key_size i.size found.1 found.2 front old mid same (i.at_rest usable) in
    absurd (not_full old.now.text n least full)

pub returns-clause-full : goal.returns-clause-full
returns-clause-full g c full =
    let s = c.self.inside in
    let i = c.self.invariant in
    let n = c.in-Some.number in
    let found = c.in-Some.ensures.found in
    let usable = ap (λ (l : LedgerState). l.usable) c.self.view_is ∙ c.requires in
    let front = all_before s.marks s.next n i.used found.3 in
    let old = c.args.self.now.file in
    let mid = g.D.Device.history s.device in
    let same = ap (λ (l : LedgerState). l.file) c.self.view_is in
    let least = is_least s.key s.marks n i.key_size i.size found.1 found.2 front old mid same (i.at_rest usable) in
    absurd (not_full old.now.text n least full)

pub returns-clause-marked : goal.returns-clause-marked
returns-clause-marked g c =
    let s = c.self.inside in
    let i = c.self.invariant in
    let found = c.in-Some.ensures.found in
    let usable = ap (λ (l : LedgerState). l.usable) c.self.view_is ∙ c.requires in
    subst (λ (n : ℕ). (g.D.Device.history c.write_through.new.device).now ≡ at_rest (with_mark n c.args.self.now.file.now.text)) (sym c.issue.ensures.number)
    (has_mark s.key s.marks c.in-Some.number i.key_size i.size found.1 found.2 (all_before s.marks s.next c.in-Some.number i.used found.3)
    c.args.self.now.file (g.D.Device.history s.device) (ap (λ (l : LedgerState). l.file) c.self.view_is) (i.at_rest usable) (g.D.Device.history c.write_through.new.device) c.in_default-write_through.ensures.ok)

pub returns-clause-own_file : goal.returns-clause-own_file
returns-clause-own_file g c =
    let s = c.self.inside in
    let i = c.self.invariant in
    let found = c.in-Some.ensures.found in
    let usable = ap (λ (l : LedgerState). l.usable) c.self.view_is ∙ c.requires in
    subst (λ (k : List ℕ). Throughout (IsFileOf k) c.args.self.now.file (g.D.Device.history c.write_through.new.device)) (ap (λ (l : LedgerState). l.key) c.self.view_is)
    (done_own s.key s.marks c.in-Some.number i.key_size i.size found.1 found.2 (all_before s.marks s.next c.in-Some.number i.used found.3)
    c.args.self.now.file (g.D.Device.history s.device) (ap (λ (l : LedgerState). l.file) c.self.view_is) (i.at_rest usable) (g.D.Device.history c.write_through.new.device) c.in_default-write_through.ensures.ok)

pub returns-clause-reads_own : goal.returns-clause-reads_own
returns-clause-reads_own g c =
    let s = c.self.inside in
    let i = c.self.invariant in
    let found = c.in-Some.ensures.found in
    let usable = ap (λ (l : LedgerState). l.usable) c.self.view_is ∙ c.requires in
    subst (λ (k : List ℕ). IsFileOf k (g.D.Device.history c.write_through.new.device).now.text) (ap (λ (l : LedgerState). l.key) c.self.view_is)
    (read_own s.key s.marks c.in-Some.number i.key_size i.size found.1 found.2 (all_before s.marks s.next c.in-Some.number i.used found.3)
    c.args.self.now.file (g.D.Device.history s.device) (ap (λ (l : LedgerState). l.file) c.self.view_is) (i.at_rest usable) (g.D.Device.history c.write_through.new.device) c.in_default-write_through.ensures.ok)

pub returns-in-Err-clause-own_file : goal.returns-in-Err-clause-own_file
returns-in-Err-clause-own_file g c =
    let s = c.self.inside in
    let i = c.self.invariant in
    let found = c.in-Some.ensures.found in
    let usable = ap (λ (l : LedgerState). l.usable) c.self.view_is ∙ c.requires in
    subst (λ (k : List ℕ). Throughout (IsFileOf k) c.args.self.now.file (g.D.Device.history c.write_through.new.device)) (ap (λ (l : LedgerState). l.key) c.self.view_is)
    (failed_own s.key s.marks c.in-Some.number i.key_size i.size found.1 found.2 (all_before s.marks s.next c.in-Some.number i.used found.3)
    c.args.self.now.file (g.D.Device.history s.device) (ap (λ (l : LedgerState). l.file) c.self.view_is) (i.at_rest usable) (g.D.Device.history c.write_through.new.device) c.in-Err.ensures.err)

pub returns-in-Err-clause-reads_own : goal.returns-in-Err-clause-reads_own
returns-in-Err-clause-reads_own g c =
    let s = c.self.inside in
    let i = c.self.invariant in
    let found = c.in-Some.ensures.found in
    let usable = ap (λ (l : LedgerState). l.usable) c.self.view_is ∙ c.requires in
    subst (λ (k : List ℕ). IsFileOf k (g.D.Device.history c.write_through.new.device).now.text) (ap (λ (l : LedgerState). l.key) c.self.view_is)
    (failed_read_own s.key s.marks c.in-Some.number i.key_size i.size found.1 found.2 (all_before s.marks s.next c.in-Some.number i.used found.3)
    c.args.self.now.file (g.D.Device.history s.device) (ap (λ (l : LedgerState). l.file) c.self.view_is) (i.at_rest usable) (g.D.Device.history c.write_through.new.device) c.in-Err.ensures.err)

pub returns-in_default-clause-own_file : goal.returns-in_default-clause-own_file
returns-in_default-clause-own_file g c =
    let s = c.self.inside in
    let i = c.self.invariant in
    let usable = ap (λ (l : LedgerState). l.usable) c.self.view_is ∙ c.requires in
    let old = c.args.self.now.file in
    let rest = sym (ap (λ (l : LedgerState). l.file.now) c.self.view_is) ∙ i.at_rest usable in
    subst (λ (k : List ℕ). Throughout (IsFileOf k) old old) (ap (λ (l : LedgerState). l.key) c.self.view_is) (still_own s.key s.marks i.key_size i.size old rest)

pub returns-in_default-clause-reads_own : goal.returns-in_default-clause-reads_own
returns-in_default-clause-reads_own g c =
    let s = c.self.inside in
    let i = c.self.invariant in
    let usable = ap (λ (l : LedgerState). l.usable) c.self.view_is ∙ c.requires in
    let old = c.args.self.now.file in
    let rest = sym (ap (λ (l : LedgerState). l.file.now) c.self.view_is) ∙ i.at_rest usable in
    subst (λ (k : List ℕ). IsFileOf k old.now.text) (ap (λ (l : LedgerState). l.key) c.self.view_is) (still_read_own s.key s.marks i.key_size i.size old rest)

pub returns-in_default-clause-no_leaf : goal.returns-in_default-clause-no_leaf
returns-in_default-clause-no_leaf g c _ =
    let s = c.self.inside in
    let i = c.self.invariant in
    let usable = ap (λ (l : LedgerState). l.usable) c.self.view_is ∙ c.requires in
    let old = c.args.self.now.file in
    let rest = sym (ap (λ (l : LedgerState). l.file.now) c.self.view_is) ∙ i.at_rest usable in
    (all_full s.key s.marks i.key_size i.size old rest s.next i.used c.in_default.ensures.none, refl)
