-- What is promised of each reply.
-- The rules stand in docs/RULES.md.
use Rattle.std.specs.Prelude.{◌≡◌, ◌==◌, List, ◌∷◌, None, Some, Ok, find}
use Rattle.std.specs.List.{All, Contains}
use Rattle.std.specs.Option.{option_map_or}
use Rattle.layout.specs.Format.{IsBytes, whole}
use Rattle.layout.specs.Types.{Bytes, Key}
use Rattle.principals.specs.Table.{Table, genesis}
use Rattle.update_cert.specs.Cert.{Cert, cert as cert_form}
use Rattle.pending_list.specs.declared.signed.Signed.{Signed}
use Rattle.pending_list.specs.Signed.{signed}
use Rattle.wire.specs.declared.kinds.Status.TheVariants as status
use Rattle.client_tree.specs.Genesis.{first_handle}
use Rattle.client_tree.specs.View.{handle_in}
use Rattle.reply_rules.specs.Lists.{Lists, items}
use Rattle.reply_check.specs.FirstBroken.{Known, lists_break, lists_in, reply_breaks}
use Rattle.consistency_server.specs.Event.{Event, Placed, last_of}
use Rattle.consistency_server.specs.State.{after_operation, next_placement, pending_after, state_after}
use Rattle.consistency_server.specs.Answers.{Call}
use Rattle.consistency_server.specs.History.{answer_of, events, update_of}
use Rattle.honest_history.specs.Placed.{IsSince, lists_to, table_to}
use Rattle.honest_history.specs.Honest.{AreHonest, Names, Naming}

-- ---- premises

-- the handle of the beginning names the table of the beginning
abbrev pub NamesFirst : Naming → Key → Type 0
NamesFirst naming pinned = Names naming (first_handle 0 pinned) (genesis pinned)

-- The calls of a history are of bytes, and what they committed is what honest clients sign.
pub record IsHonestHistory (naming : Naming) (pinned : Key) (history : List Call) : Type 0 where
  pub first : NamesFirst naming pinned
  pub bytes : All (λ call. IsBytes call.text) history
  pub honest : AreHonest naming pinned (events pinned history)

-- ---- promises

-- The table of principals of these lists: the one that user 0's handle names, as user 0's pending operation leaves it.
pub record IsTableOf (naming : Naming) (pinned : Key) (x : Lists) (t : Table) : Type 0 where
  pub users : Table
  pub named : Names naming (handle_in pinned x.structures 0) users
  pub after : t ≡ option_map_or (λ i. after_operation i.cert users) (find (λ i. i.plan.user == 0) (items x)) users

-- A client that knows this finds no rule broken in the text of a reply: none of those on the reply itself; and none of
-- the others in its lists, by their table of principals.
pub record IsUnbroken (naming : Naming) (k : Known) (text : Bytes) (x : Lists) (t : Table) : Type 0 where
  pub itself : reply_breaks k text ≡ None
  pub lists : lists_in text ≡ Some x
  pub table : IsTableOf naming k.pinned x t
  pub by_table : lists_break t x ≡ None

-- what a user's client knows whose last structure is the one that was committed last, and that declared this text
abbrev pub known_after : Key → List Event → Signed Cert → Bytes → Known
known_after pinned es c text =
    record { user = c.value.user; pinned = pinned; last = last_of c.value.user es; declared = text }

-- What UPDATE answers to this text is the reply to the operation that it declares, which is pending then, as the reply
-- was when the operation was placed. It breaks no rule, and its table is the one after that operation.
pub record IsServed (naming : Naming) (pinned : Key) (history : List Call) (text payload : Bytes) : Type 0 where
  pub cert : Signed Cert
  pub declared : whole (signed cert_form) text ≡ Ok cert
  pub earlier : List Event
  pub since : IsSince (Placed cert ∷ earlier) (events pinned (update_of text ∷ history))
  pub pending : Contains (pending_after pinned (events pinned (update_of text ∷ history)))
      (next_placement (state_after pinned earlier) cert)
  pub unbroken : IsUnbroken naming (known_after pinned (events pinned history) cert text) payload
      (lists_to pinned earlier cert) (table_to pinned earlier cert)

-- so it is whenever UPDATE is answered with status 0
abbrev pub EachReplyIsUnbroken : Type 0
EachReplyIsUnbroken =
    (naming : Naming) (pinned : Key) (history : List Call) → IsHonestHistory naming pinned history
    → (text payload : Bytes) → IsBytes text
    → answer_of pinned history (update_of text) ≡ record { status = status.Ok; payload = payload }
    → IsServed naming pinned history text payload
