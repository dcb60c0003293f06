-- The reply to the operation that was placed last breaks no rule.
use Rattle.std.proofs.Common.{◌≡◌, ℕ, List, Option, Some, None, true, false, refl, sym, ap, ◌∙◌, subst, inl, inr}
use Rattle.std.specs.Prelude.{◌==◌, ◌||◌, not}
use Rattle.std.specs.Option.{option_map, option_map_or}
use Rattle.std.specs.Str.{bytes_eq}
use Rattle.std.proofs.lemmas.Bool.{eq-eqb, ne_eqb, cases_eq, and_from, or_left, or_right}
use Rattle.lms_sign.specs.Signature.{valid}
use Rattle.principals.specs.Table.{Table, key_at}
use Rattle.version_order.specs.Plan.{Plan}
use Rattle.version_order.specs.Structure.{Structure, structure}
use Rattle.version_order.specs.Vector.{version_of}
use Rattle.update_cert.specs.Cert.{cert}
use Rattle.pending_list.specs.declared.signed.Signed.{Signed}
use Rattle.pending_list.specs.Groups.{table_version}
use Rattle.pending_list.specs.Reply.{PendingItem, Reply}
use Rattle.reply_rules.specs.Lists.{Lists, items}
use Rattle.reply_check.specs.FirstBroken.{cert_is_signed, cert_sent, cert_verifies, certificates, lists_break, of_reply, own_last, own_pending, same_bytes, signatures, structure_is_signed, structure_sent, structure_verifies, super_signature, verifies}
use Rattle.reply_check.proofs.ListsLaws.{last_one}
use Rattle.honest_history.proofs.EntryRules.{entries_hold}
use Rattle.honest_history.proofs.ListRules.{known_hold, lists_hold, numbers_hold}
use Rattle.honest_history.proofs.Members.{all_from, bytes_same}
use Rattle.honest_history.proofs.OrderRules.{link_hold, vector_hold}
use Rattle.honest_history.proofs.RecordRules.{records_hold}
use Rattle.honest_history.proofs.Tabled.{IsSigned}
use Rattle.honest_history.proofs.Tables.{key_for}
use Rattle.honest_history.proofs.Timeline.{user}
use Rattle.honest_history.proofs.Tops.{Snapshot, item_in, lists_at}

-- what is signed under the key that the table has verifies by it
verifies_signed : (t : Table) (p : Plan) (u : ℕ) (text signature : List ℕ) → p.user ≡ u → IsSigned t u (table_version p) text signature → verifies t u (version_of 0 p.vector) text signature ≡ true
verifies_signed t p u text signature of h =
    elim (cases_eq u 0) [
      | inl zero ↦ or_left (u == 0) _ (eq-eqb u 0 zero)
      | inr other ↦ (
          let at : table_version p ≡ version_of 0 p.vector = rw (ne_eqb p.user 0 (λ e. other (sym of ∙ e))) refl in
          let has : key_at u (version_of 0 p.vector) t ≡ Some h.0 = ap (λ v. key_at u v t) (sym at) ∙ h.1 in
          or_right (u == 0) _ (ap (λ o. option_map_or (λ key. valid key text signature) o false) has ∙ h.2))
    ]

-- and user 0's under the key that every client knows
verifies_super : (t : Table) (pinned : List ℕ) (u v : ℕ) (text signature : List ℕ) → ((v : ℕ) → key_for t 0 v ≡ Some pinned) → IsSigned t u v text signature → (not (u == 0) || valid pinned text signature) ≡ true
verifies_super t pinned u v text signature known h =
    elim (cases_eq u 0) [
      | inl e ↦ (
          let k : Some h.0 ≡ Some pinned = sym h.1 ∙ ap (λ w. key_for t w v) e ∙ known v in
          let same : h.0 ≡ pinned = cc in
          or_right _ _ (subst (λ (key : List ℕ). valid key text signature ≡ true) same h.2))
      | inr n ↦ or_left _ _ (ap not (ne_eqb u 0 n))
    ]

same_self : (o : Option (List ℕ)) → same_bytes o o ≡ true
same_self None = refl
same_self (Some text) = bytes_same text

module _ (s : Snapshot) where
  abbrev x : Lists
  x = lists_at s

  -- the reply
  abbrev pub reply_at : Reply
  reply_at = record { structures = s.structures; pending = items x }

  signatures_hold : signatures s.table x ≡ true
  unfolding signatures
  signatures_hold =
      all_from (structure_is_signed s.table) s.structures
      (λ z h. verifies_signed s.table z.value.plan z.value.plan.user (structure.spell z.value) z.signature refl (s.signed z h))

  certificates_hold : certificates s.table x ≡ true
  unfolding certificates
  certificates_hold =
      all_from (cert_is_signed s.table) (items x)
      (λ i h. verifies_signed s.table i.plan i.cert.user (cert.spell i.cert) i.signature (s.placing.planned_user i (item_in s i h).0) (s.tabled.signed i (item_in s i h).0))

  super_hold : (pinned : List ℕ) → ((v : ℕ) → key_for s.table 0 v ≡ Some pinned) → super_signature pinned reply_at ≡ true
  unfolding super_signature
  super_hold pinned known =
      and_from _ _
      (all_from (structure_verifies pinned) s.structures (λ z h. verifies_super s.table pinned z.value.plan.user (table_version z.value.plan) (structure.spell z.value) z.signature known (s.signed z h)))
      (all_from (cert_verifies pinned) (items x) (λ i h. verifies_super s.table pinned i.cert.user (table_version i.plan) (cert.spell i.cert) i.signature known (s.tabled.signed i (item_in s i h).0)))

  last_holds : own_last (user s.own) (s.last (user s.own)) reply_at ≡ true
  unfolding own_last
  last_holds =
      ap (λ o. same_bytes (option_map structure_sent o) (option_map structure_sent (s.last (user s.own)))) (s.latests.of_user (user s.own) (s.placing.users s.own (inl refl)))
      ∙ same_self (option_map structure_sent (s.last (user s.own)))

  pending_holds : own_pending (cert_sent s.own) reply_at ≡ true
  unfolding own_pending
  pending_holds = ap (λ o. option_map_or (λ i. bytes_eq (cert_sent i) (cert_sent s.own)) o false) (last_one x.others s.own) ∙ bytes_same (cert_sent s.own)

  pub reply_unbroken : (pinned : List ℕ) → ((v : ℕ) → key_for s.table 0 v ≡ Some pinned)
      → of_reply (record { user = user s.own; pinned = pinned; last = s.last (user s.own); declared = cert_sent s.own }) reply_at ≡ None
  unfolding of_reply
  reply_unbroken pinned known = rw (lists_hold s, last_holds, pending_holds, super_hold pinned known) refl

  pub lists_unbroken : lists_break s.table x ≡ None
  lists_unbroken = rw (known_hold s, signatures_hold, certificates_hold, numbers_hold s, vector_hold s, entries_hold s, link_hold s, records_hold s) refl
