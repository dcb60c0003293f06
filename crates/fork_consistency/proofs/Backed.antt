-- Where all that the parts of a view stand on is among these texts, and all that its operations make and put, each block
-- that is asked for to store what the own operation makes, or to tell what a look asks, is among them, too.
use Rattle.std.proofs.Common.{◌≡◌, ℕ, ◌<◌, Bool, true, false, ◌==◌, ◌&&◌, List, [], ◌∷◌, ◌++◌, take, Option, Some, None, refl, sym, ap, ◌∙◌, subst, inl, inr, option_map}
use Rattle.std.specs.Prelude.{◌⊎◌, filter, not}
use Rattle.std.proofs.lemmas.Bool.{and_parts, eq-eqb, eqb-true}
use Rattle.layout.specs.Types.{Bytes, Digest, Handle, INumber, Principal}
use Rattle.itable.specs.File.{NoneCollide}
use Rattle.itable.specs.declared.inode.Kind.TheVariants as kinds
use Rattle.update_cert.specs.Change.{Change}
use Rattle.update_cert.specs.Reading.{Reading}
use Rattle.update_cert.specs.World.{Actor, is_table}
use Rattle.tree_parts.specs.Blocks.{Agrees, Blocks, inode_told}
use Rattle.tree_parts.specs.Part.{Part, Laid, handle, slot_at}
use Rattle.tree_parts.specs.Asked.{IsAskedFor, IsChunkAskedFor, IsChunkFor, IsInodeAskedFor, IsWantedBy, covers, needs_inode}
use Rattle.tree_parts.specs.declared.scope.Scope.{Scope}
use Rattle.tree_parts.specs.declared.scope.Scope.TheVariants as scopes
use Rattle.tree_parts.specs.declared.spot.Spot.{Spot}
use Rattle.tree_parts.proofs.SomeReading.{some_reading}
use Rattle.pending_list.specs.Reply.{PendingItem}
use Rattle.client_tree.specs.Opened.{IsLooked, IsNeeded, IsOfInode, IsOpening, IsOpeningAt, IsPartAfter, IsThere, items_on}
use Rattle.client_tree.specs.Questions.{IsAskedBy, IsAskedForFree, IsAskedForKind, IsInodeThere}
use Rattle.client_tree.specs.Tree.{IsWanted}
use Rattle.client_tree.specs.View.{View, actor_of, comes_after, handle_of, written}
use Rattle.client_tree.specs.declared.questions.Question.{Question}
use Rattle.client_tree.specs.declared.questions.Question.TheVariants as question
use Rattle.client_steps.specs.Steps.{principal_of}
use Rattle.agreement.proofs.Members.{In, in-append, in-filter, in-left, in-middle, in-right}
use Rattle.agreement.proofs.Tests.{any_in}
use Rattle.fork_consistency.specs.Handles.{told_by_texts}
use Rattle.fork_consistency.proofs.Among.{AreAmong, agrees_within, are_within}
use Rattle.fork_consistency.proofs.Chunks.{some_is}
use Rattle.fork_consistency.proofs.Served.{IsContent, IsFilled, IsServed, in_front, serve_block, serve_chunk, serve_inode, serve_root}
use Rattle.fork_consistency.proofs.Slots.{IsMadeBy, IsMadeByItems, changes_laid, items_laid}
use Rattle.fork_consistency.proofs.Whole.{told}

-- each handle on which a part of the view stands is filled, and what an operation makes or puts is a content among the
-- texts
pub record IsBacked (texts : List Bytes) (x : View) : Type 0 where
  pub handles : (p : ℕ) → p < 96 → IsFilled texts p (handle_of x p)
  pub made : (i : PendingItem) → In i (x.others ++ x.own ∷ []) → (d : Digest) → IsMadeBy i.cert.changes d → IsContent texts d

module _ (texts : List Bytes) (apart : NoneCollide texts texts) (blocks : Blocks) (among : AreAmong texts blocks) (x : View) (backed : IsBacked texts x) where
  abbrev Served : Digest → Spot → Type 0
  Served = IsServed texts blocks

  -- a reading of all
  pub reads : Reading
  reads = (some_reading (told_by_texts texts)).0

  agrees_all : Agrees (told_by_texts texts) reads
  unfolding reads
  agrees_all = (some_reading (told_by_texts texts)).1

  agrees : Agrees blocks reads
  agrees = agrees_within blocks (told_by_texts texts) (are_within texts apart blocks among) reads agrees_all

  -- what the operations on a part make and put
  made_on : (p : Principal) (d : Digest) → IsMadeByItems (items_on x p) d → IsContent texts d
  made_on p d (i, j, made) = backed.made i (go (in-append i (filter (comes_after x p) x.others) (x.own ∷ []) j)) d made
    where
      go : In i (filter (comes_after x p) x.others) ⊎ In i (x.own ∷ []) → In i (x.others ++ x.own ∷ [])
      go (inl other) = in-left i x.others (x.own ∷ []) (in-filter (comes_after x p) i x.others other).0
      go (inr own) = in-right i x.others (x.own ∷ []) own

  module _ (p : Principal) (low : p < 96) where
    -- the handle's digests
    first_laid : (i : INumber) (d : Digest) → is_table p i ≡ false → option_map Laid (reads.inode p (handle_of x p) i) ≡ Some (Laid d) → IsContent texts d
    first_laid i d other is =
        let w = backed.handles p low in
        let at = told texts apart p (handle_of x p) w.all i in
        go at.0 at.1 (ap (option_map Laid) (sym (agrees_all.inodes p (handle_of x p) i at.0 at.1)) ∙ is)
      where
        go : (o : Option Digest) → inode_told (told_by_texts texts) p (handle_of x p) i ≡ Some o → option_map Laid o ≡ Some (Laid d) → IsContent texts d
        go None at e = absurd (cc e)
        go (Some f) at e =
            let same : f ≡ d = (let one : Laid f ≡ Laid d = some_is e in cc one) in
            subst (IsContent texts) same ((backed.handles p low).contents i f at other)

    -- what is laid in the part after some of the operations
    module _ (scope : Scope) (items : List PendingItem) (inside : (i : PendingItem) → In i items → In i (items_on x p)) (part : Part) (after : IsPartAfter blocks scope x.table items p (handle_of x p) part) where
      pub laid_here : (i : INumber) (d : Digest) → covers scope i ≡ true → is_table p i ≡ false → slot_at reads part i ≡ Some (Laid d) → IsContent texts d
      laid_here i d covered other is =
          elim (items_laid reads d x.table p i items (option_map Laid (reads.inode p (handle_of x p) i)) (sym (after.slots reads agrees i covered) ∙ is)) [
            | inl first ↦ first_laid i d other first
            | inr (y, j, made) ↦ made_on p d (y, inside y j, made)
          ]

      -- all that one of them asks for, at its turn
      asked_chunk : (actor : Actor) (cs : List (Change Digest)) (digest : Digest) (s : Spot) → IsChunkAskedFor blocks scope actor cs part digest s → Served digest s
      asked_chunk actor cs digest s (k, c, at, within, asks_it, is) =
          serve_chunk texts apart blocks among p (handle_of x p) (backed.handles p low) c.i_number digest s
          (subst (λ (h : Handle). IsChunkFor blocks p h c.i_number digest s) after.stands_on (subst (λ (q : Principal). IsChunkFor blocks q (handle part) c.i_number digest s) after.principal is))

      asked_inode : (item : PendingItem) → In item (items_on x p) → (actor : Actor) (digest : Digest) (s : Spot) → IsInodeAskedFor blocks scope actor item.cert.changes part digest s → Served digest s
      asked_inode item of actor digest s (k, c, inode, within, met, asks_it, is) = served is
        where
          other : is_table c.principal c.i_number ≡ false
          other = go (is_table c.principal c.i_number) (and_parts (not (is_table c.principal c.i_number)) (needs_inode c.principal c.i_number c.action) (and_parts _ (not (is_table c.principal c.i_number) && needs_inode c.principal c.i_number c.action) asks_it).1).0
            where
              go : (b : Bool) → not b ≡ true → b ≡ false
              go true e = absurd (cc e)
              go false e = refl

          same : c.principal ≡ p
          same = within.0 ∙ after.principal

          content : IsContent texts inode
          content =
              elim (changes_laid reads inode actor part.table.principal c.i_number (take k item.cert.changes) (slot_at reads part c.i_number) (met.1 reads agrees)) [
                | inl here ↦ laid_here c.i_number inode within.1 (ap (λ (q : Principal). is_table q c.i_number) (sym same) ∙ other) here
                | inr (y, j, names) ↦ made_on p inode (item, of, (y, in_front item.cert.changes k y j, names))
              ]

          served : IsWantedBy blocks c inode digest s → Served digest s
          served (inl node) = serve_inode texts apart blocks among inode content.laid c.principal c.i_number other digest s node
          served (inr (needs, block)) = serve_block texts apart blocks among kinds.Directory inode digest s content block

      asked_for : (item : PendingItem) → In item (items_on x p) → (actor : Actor) (digest : Digest) (s : Spot) → IsAskedFor blocks scope actor item.cert.changes part digest s → Served digest s
      asked_for item of actor digest s (inl is) = asked_chunk actor item.cert.changes digest s is
      asked_for item of actor digest s (inr is) = asked_inode item of actor digest s is

    serve_opening : (scope : Scope) (digest : Digest) (s : Spot) → IsOpening blocks x scope p digest s → Served digest s
    serve_opening scope digest s (inl is) = serve_root texts apart blocks among p (handle_of x p) (backed.handles p low) digest s is
    serve_opening scope digest s (inr is) =
        let into : (i : PendingItem) → In i (is.earlier ++ is.item ∷ is.later) → In i (items_on x p) = λ i j. subst (λ (l : List PendingItem). In i l) (sym is.in_turn) j in
        asked_for scope is.earlier (λ i j. into i (in-left i is.earlier (is.item ∷ is.later) j)) is.part is.after is.item
        (into is.item (in-middle is.item is.earlier is.later)) (actor_of x.table is.item) digest s is.asked

    serve_opening_at : (i : INumber) (digest : Digest) (s : Spot) → IsOpeningAt blocks x p i digest s → Served digest s
    serve_opening_at i digest s (inl is) = serve_opening (scopes.At i) digest s is
    serve_opening_at i digest s (inr is) = serve_chunk texts apart blocks among p (handle_of x p) (backed.handles p low) i digest s is

    serve_needed : (digest : Digest) (s : Spot) → IsNeeded blocks x p digest s → Served digest s
    serve_needed digest s (touched, inl is) = serve_opening scopes.All digest s is
    serve_needed digest s (touched, inr (zero_is, is)) = serve_chunk texts apart blocks among p (handle_of x p) (backed.handles p low) 1 digest s is

    -- what stands at an i-number of the opened part
    module _ (i : INumber) (other : is_table p i ≡ false) (part : Part) (after : IsPartAfter blocks (scopes.At i) x.table (items_on x p) p (handle_of x p) part) where
      stands_content : (d : Digest) → slot_at reads part i ≡ Some (Laid d) → IsContent texts d
      stands_content d is = laid_here (scopes.At i) (items_on x p) (λ y j. j) part after i d (eq-eqb i i refl) other is

      other_here : is_table part.table.principal i ≡ false
      other_here = ap (λ (q : Principal). is_table q i) after.principal ∙ other

      of_inode : (inode : Digest) → IsContent texts inode → (digest : Digest) (s : Spot) → IsOfInode blocks part.table.principal i inode digest s → Served digest s
      of_inode inode c digest s (inl node) = serve_inode texts apart blocks among inode c.laid part.table.principal i other_here digest s node
      of_inode inode c digest s (inr (kind, block)) = serve_block texts apart blocks among kind inode digest s c block

      serve_there : (digest : Digest) (s : Spot) → IsThere blocks part i digest s → Served digest s
      serve_there digest s (inode, stands, is) = of_inode inode (stands_content inode (stands reads agrees)) digest s is

      serve_inode_there : (digest : Digest) (s : Spot) → IsInodeThere blocks part i digest s → Served digest s
      serve_inode_there digest s (inode, stands, is) = of_inode inode (stands_content inode (stands reads agrees)) digest s (inl is)

    serve_looked : (i : INumber) (digest : Digest) (s : Spot) → IsLooked blocks x p i digest s → Served digest s
    serve_looked i digest s (other, inl is) = serve_opening_at i digest s is
    serve_looked i digest s (other, inr (part, opened, is)) = serve_there i other part opened.after digest s is

    serve_kind : (i : INumber) (digest : Digest) (s : Spot) → IsAskedForKind blocks x p i digest s → Served digest s
    serve_kind i digest s (other, inl is) = serve_opening_at i digest s is
    serve_kind i digest s (other, inr (part, opened, is)) = serve_inode_there i other part opened.after digest s is

    serve_free : (first last : INumber) (digest : Digest) (s : Spot) → IsAskedForFree blocks x p first last digest s → Served digest s
    serve_free first last digest s (other, inl is) = serve_root texts apart blocks among p (handle_of x p) (backed.handles p low) digest s is
    serve_free first last digest s (other, inr (i, low_is, high_is, not_table, mapped, is)) = serve_opening_at i digest s is

  -- what the own operation makes
  pub serve_wanted : ((p : ℕ) → In p (written x) → p < 96) → (digest : Digest) (s : Spot) → IsWanted blocks x digest s → Served digest s
  serve_wanted low digest s (p, of, is) =
      let (q, i, same) = any_in (λ (q : ℕ). q == p) (written x) of in
      serve_needed p (subst (λ (n : ℕ). n < 96) (eqb-true q p same) (low q i)) digest s is

  -- what a look asks
  pub serve_look : (q : Question) → principal_of q < 96 → (digest : Digest) (s : Spot) → IsAskedBy blocks x q digest s → Served digest s
  serve_look (question.At p i) low digest s is = serve_looked p low i digest s is
  serve_look (question.Kind p i) low digest s is = serve_kind p low i digest s is
  serve_look (question.Free p first last) low digest s is = serve_free p low first last digest s is
