-- What a client makes of a reply, and of the blocks that it asks for. What it knows of blocks then says Holding.antt.
use Rattle.std.specs.Prelude.{◌≡◌, ◌⊎◌, ℕ, List, ◌∷◌, ◌++◌, Option, Some, None, IsSomeAnd, true, map}
use Rattle.std.specs.List.{flat_map}
use Rattle.std.specs.Vec.{vec_items}
use Rattle.tree_parts.specs.Spot.{lacks}
use Rattle.pending_list.specs.Reply.{Reply}
use Rattle.reply_rules.specs.Lists.{Lists, lists_of}
use Rattle.checked_blocks.specs.CheckedBlocks.{known_blocks, holding as with_held}
use Rattle.layout.specs.Types.{Bytes}
use Rattle.client_tree.specs.View.{handle_in}
use Rattle.client_tree.specs.Principals.{IsOfNamed}
use Rattle.client_tree.specs.Tree.{IsLost, IsOutcome, IsWanted, Stored}
use Rattle.reply_check.specs.declared.asked.Asked.{Asked}
use Rattle.client_verify.specs.declared.step.Step.{Step}
use Rattle.client_verify.specs.declared.step.Step.TheVariants.{Need, Store, Broken}
use Rattle.reply_check.specs.FirstBroken.{ByTable, IsFirstBroken, IsRead, lists_in, reply_breaks, reply_in}
use Rattle.reply_check.specs.Good.{Good, record_over, view_of}
use Rattle.client_verify.specs.State.{State, Checked, Reading, Writing, asked_of, blocks_with, holding, known}
use Rattle.reply_check.specs.AskedBlock.{block_breaks}

-- Lists that break no rule: a block is asked for that tells what the operation makes, and of which no text is known
-- that its spot takes; or, once none is wanted any more, the reply is accepted, and the new texts of the own part and
-- of those of the groups that are raised are handed out.
abbrev pub AsksOrAccepts : {A : Type 0} → State → Good → Step A → State → Type 0
AsksOrAccepts s x (Need digest) new =
    (a : Asked) × (a.digest ≡ digest)
    × (new ≡ record s { blocks = new.blocks; checked = Some (Writing x a); accepted = None })
    × IsWanted (known_blocks s.blocks) (view_of s.pinned x) digest a.spot
    × (lacks (known_blocks s.blocks) digest a.spot ≡ true)
AsksOrAccepts s x (Store texts) new =
    (own : Stored) × (groups : List Stored) × (lost : List ℕ)
    × (new ≡ record s {
      blocks = new.blocks;
      checked = None;
      accepted = Some (record {
        lists = x.lists;
        table = x.table;
        handle = own.handle;
        records = map (record_over x.lists.own.plan) groups;
        lost = lost;
      });
    })
    × IsOutcome (known_blocks s.blocks) (view_of s.pinned x) (own ∷ groups)
    × IsLost (known_blocks s.blocks) (view_of s.pinned x) x.void lost
    × (map vec_items texts.items ≡ own.texts ++ flat_map (λ g. g.texts) groups)
AsksOrAccepts s x (Broken rule) new = ⊥

-- The table of principals of these lists, read from the blocks that are known. By no table that can be read from these
-- do they break a rule.
abbrev pub IsGood : State → Lists → Good → Type 0
IsGood s x good = (good.lists ≡ x) × IsRead (known_blocks s.blocks) s.pinned x good.table good.void
    × ByTable (known_blocks s.blocks) s.pinned x None

-- Where the reply breaks none of the rules on itself: while the table of principals can't be read, a block of it is
-- asked for, of which no text is known that its spot takes; once it is read and the lists break no rule by it, the
-- reply goes on.
abbrev pub Taken : {A : Type 0} → State → Reply → Lists → Step A → State → Type 0
Taken {A} s r x (Need digest) new =
    ((a : Asked) × (a.digest ≡ digest)
    × (new ≡ record s { blocks = new.blocks; checked = Some (Reading r a); accepted = None })
    × IsOfNamed (known_blocks s.blocks) (handle_in s.pinned x.structures 0) digest a.spot
    × (lacks (known_blocks s.blocks) digest a.spot ≡ true))
    ⊎ ((good : Good) × IsGood s x good × AsksOrAccepts {A = A} s good (Need digest) new)
Taken s r x (Store texts) new = (good : Good) × IsGood s x good × AsksOrAccepts s good (Store texts) new
Taken s r x (Broken rule) new = ⊥

-- A reply: Broken with the first broken rule, and then the client is as before; else it goes on.
abbrev pub Judged : {A : Type 0} → State → Bytes → Step A → State → Type 0
Judged old text (Broken rule) new =
    IsFirstBroken (reply_breaks (known old) text) None (known_blocks old.blocks) old.pinned (lists_in text) rule
    × (new ≡ old)
Judged old text step new =
    (reply_breaks (known old) text ≡ None)
    × IsSomeAnd (reply_in text) (λ r. IsSomeAnd (lists_of r) (λ x. Taken old r x step new))

-- the lists of a reply under check whose rules aren't judged yet, if they aren't
abbrev pub unjudged : Checked → Option Lists
unjudged (Reading r a) = lists_of r
unjudged (Writing x a) = None

abbrev pub GoesOn : {A : Type 0} → State → Checked → Step A → State → Type 0
GoesOn s (Reading r a) step new = IsSomeAnd (lists_of r) (λ x. Taken s r x step new)
GoesOn s (Writing x a) step new = AsksOrAccepts s x step new

-- the table of principals is being read, or what the operation makes
abbrev pub IsReading : Checked → Type 0
IsReading (Reading r a) = Unit {0}
IsReading (Writing x a) = ⊥

abbrev pub IsWriting : Checked → Type 0
IsWriting (Reading r a) = ⊥
IsWriting (Writing x a) = Unit {0}

-- a good block of the table was handed in
abbrev pub ReadsOn : {A : Type 0} → State → Checked → Bytes → Step A → State → Type 0
ReadsOn old k text (Broken rule) new = IsSomeAnd (unjudged k)
    (λ x. ByTable (known_blocks (with_held old.blocks text)) old.pinned x (Some rule)) × (new ≡ old)
ReadsOn old k text step new = GoesOn (holding old text) k step new

-- The block that a reply under check asks for, or its absence: Broken where it isn't that block, or where the table of
-- principals can be read with it and the lists break a rule by that, and then the client is as before; else it is held,
-- and the reply goes on.
abbrev pub Handed : {A : Type 0} → State → Checked → Option Bytes → Step A → State → Type 0
Handed old k block (Broken rule) new =
    IsFirstBroken None (block_breaks (known_blocks old.blocks) (asked_of k) block)
    (known_blocks (blocks_with old block)) old.pinned (unjudged k) rule × (new ≡ old)
Handed old k block step new =
    (block_breaks (known_blocks old.blocks) (asked_of k) block ≡ None)
    × IsSomeAnd block (λ text. GoesOn (holding old text) k step new)
