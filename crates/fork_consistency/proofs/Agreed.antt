-- The accepted views of a run agree.
use Rattle.std.proofs.Common.{◌≡◌, List, [], ◌∷◌, ◌++◌, map, Some, IfSome, refl, sym, ap, ◌∙◌, subst, inl, inr, option_map}
use Rattle.std.specs.Prelude.{◌⊎◌}
use Rattle.std.specs.List.{All, Contains, flat_map}
use Rattle.layout.specs.Types.{Bytes, Key, User, Version}
use Rattle.principals.specs.Table.{key_at}
use Rattle.version_order.specs.Plan.{Plan, plan}
use Rattle.version_order.specs.Structure.{Structure, structure}
use Rattle.version_order.specs.Vector.{version_of}
use Rattle.update_cert.specs.Cert.{Cert, cert}
use Rattle.pending_list.specs.declared.signed.Signed.{Signed}
use Rattle.pending_list.specs.Reply.{PendingItem}
use Rattle.reply_rules.specs.Lists.{Lists, items, pending, structure_of, shown as plans_shown}
use Rattle.client_tree.specs.Genesis.{first_texts}
use Rattle.agreement.specs.Lines.{Agree, AgreeByPlans, AreNumbered, EndWithOwn, Grow, line}
use Rattle.agreement.specs.Runs.{Accepted, View, last_signed, number_of, texts_of, user_of, AreAccepted, NoViewCollision, structures as structures_of}
use Rattle.agreement.proofs.Lines as lines
use Rattle.agreement.proofs.Members.{In, contains_in, flat_map-in, in-append, in-left, in-map, in-right, in_contains, map-in, to_all}
use Rattle.release_runs.specs.Steps as low
use Rattle.release_runs.proofs.Stories.{IsStory, OfCert, OfStructure, Release, last_in}
use Rattle.client_runs.specs.Runs.{Event, IsOwnKey, IsRun, Keys, client_of, owner, pinned as pinned_key}
use Rattle.client_runs.specs.Released.{accepted_by, hashed, hashed_at, pending_texts, reply_texts, shown_cert, shown_structure, structure_texts, tried_view, views}
use Rattle.fork_consistency.specs.Premises.{AreReleased, HasReleased, PinnedIsKey, everybody}
use Rattle.fork_consistency.proofs.Genuine.{AllGenuine, IsGenuineRun, genuine, pinned_own, released_later, released_structure}
use Rattle.fork_consistency.proofs.Holds.{IsTriedOver, known_in, signed_in}
use Rattle.fork_consistency.proofs.Judging.{cert_by_super, cert_verified, own_last_is, structure_by_super, structure_fits, structure_verified, unbroken, unbroken_by, value_of, verified}
use Rattle.client_runs.proofs.Lowering.{low_owner}
use Rattle.fork_consistency.proofs.Moves.{holds_at}
use Rattle.client_runs.proofs.Replies.{of_lists}
use Rattle.fork_consistency.proofs.ByCertificates.{super_honest}
use Rattle.fork_consistency.proofs.ListedKeys.{own_key_at}
use Rattle.fork_consistency.proofs.Views.{first_in, first_of, in_views, last_view, one_at_most, over_here}

last_fits : (o : low.Owner) (story : List Release) → IsStory o story → IfSome (last_in o story) (λ z. structure.Fits z.value)
last_fits o [] is = tt
last_fits o (OfCert n c q ∷ older) is = last_fits o older is.1
last_fits o (OfStructure n z q ∷ older) is = is.0.next.fits

-- ---- texts of which digests are taken

flat_map-of : {A B : Type 0} (f : A → List B) (xs : List A) (t : B) → In t (flat_map f xs) → (x : A) × In x xs × In t (f x)
flat_map-of f [] t i = absurd i
flat_map-of {A} f (x ∷ xs) t i =
    elim (in-append t (f x) (flat_map f xs) i) [
      | inl j ↦ (x, inl refl, j)
      | inr j ↦ (let r = flat_map-of f xs t j in (r.0, inr r.1, r.2))
    ]

plan_text : (x : Lists) (p : Plan) → In p (plans_shown x ++ pending x) → In (plan.spell p) (reply_texts (of_lists x))
plan_text x p i =
    elim (in-append p (plans_shown x) (pending x) i) [
      | inl j ↦ (
          let (s, k, e) = in-map (λ (z : Signed Structure). z.value.plan) x.structures p j in
          in-left (plan.spell p) (flat_map structure_texts x.structures) (flat_map pending_texts (items x))
          (flat_map-in structure_texts x.structures s (plan.spell p) k (inr (inl (ap plan.spell e)))))
      | inr j ↦ (
          let (s, k, e) = in-map (λ (i : PendingItem). i.plan) (items x) p j in
          in-right (plan.spell p) (flat_map structure_texts x.structures) (flat_map pending_texts (items x))
          (flat_map-in pending_texts (items x) s (plan.spell p) k (inr (inl (ap plan.spell e)))))
    ]

view_text : (x : View) (t : Bytes) → In t (texts_of x) → In t (reply_texts (of_lists x.lists))
view_text x t i =
    elim (in-append t (map (λ p. plan.spell p) (plans_shown x.lists ++ pending x.lists)) (map (λ (i : PendingItem). cert.spell i.cert) (items x.lists)) i) [
      | inl j ↦ (
          let (p, k, e) = in-map (λ (p : Plan). plan.spell p) (plans_shown x.lists ++ pending x.lists) t j in
          subst (λ (y : Bytes). In y (reply_texts (of_lists x.lists))) (sym e) (plan_text x.lists p k))
      | inr j ↦ (
          let (s, k, e) = in-map (λ (i : PendingItem). cert.spell i.cert) (items x.lists) t j in
          in-right t (flat_map structure_texts x.lists.structures) (flat_map pending_texts (items x.lists)) (flat_map-in pending_texts (items x.lists) s t k (inl e)))
    ]

-- the view's table lists no key but a user's own
abbrev IsTrueTable : Keys → View → Type 0
IsTrueTable keys x = (u : User) (v : Version) (k : Key) → key_at u v x.table ≡ Some k → IsOwnKey keys u k

module _ (keys : Keys) where
  -- ---- an accepted view

  module _ (older : List Event) (is : IsRun keys older) (none : AllGenuine keys older) (u : User) (x : View) (over : IsTriedOver (owner keys u) (holds_at keys u older is).story older x) where
    last_now : option_map value_of (structure_of u x.lists) ≡ last_signed u (views older)
    last_now =
        let h = holds_at keys u older is in
        let o = low_owner (owner keys u) in
        own_last_is u (last_in o h.story) (of_lists x.lists) over.good.judged.fits (last_fits o h.story h.low.is_story)
        (unbroken (known_in (owner keys u) h.story) (of_lists x.lists) over.good.judged.unbroken).last_is
        ∙ sym (last_view keys u older is ∙ ap first_of h.viewed ∙ first_in o h.story)

    module _ (own : IsTrueTable keys x) (mine : IsOwnKey keys 0 (pinned_key keys)) where
      -- a structure of the view was signed over an earlier one
      was_signed : (s : Signed Structure) → In s x.lists.structures → In s.value (map signed_in (views older))
      was_signed s j =
          let r = of_lists x.lists in
          let rules = unbroken (known_in (owner keys u) (holds_at keys u older is).story) r over.good.judged.unbroken in
          let by = unbroken_by x.table x.lists over.good.by_table in
          let w = s.value.plan.user in
          let was =
          over.good.judged.was_shown (shown_structure s)
          (in-left (shown_structure s) (map shown_structure x.lists.structures) (map shown_cert (items x.lists)) (map-in shown_structure x.lists.structures s j)) in
          let signature =
          verified (IsOwnKey keys) (pinned_key keys) x.table own mine w (version_of 0 s.value.plan.vector) (structure.spell s.value) s.signature (structure_verified x.table x.lists by.structures s j) (structure_by_super (pinned_key keys) r rules.by_super s j) in
          in_views keys w older s.value (released_structure keys older is w s.value (structure_fits r over.good.judged.fits s j) (genuine keys older none (shown_structure s) was signature.0 signature.1 signature.2))

      accepted_over : Accepted (views older) x
      accepted_over = record {
        read = over.good.judged.fits;
        lists = (unbroken (known_in (owner keys u) (holds_at keys u older is).story) (of_lists x.lists) over.good.judged.unbroken).in_order;
        own_last = subst (λ (v : User). option_map value_of (structure_of v x.lists) ≡ last_signed v (views older)) (sym over.user) last_now;
        rules = (unbroken_by x.table x.lists over.good.by_table).rules;
        signed = over.plan;
        released =
            to_all (Contains (map signed_in (views older))) (structures_of x)
            (λ z i. (
            let (s, j, same) = in-map value_of x.lists.structures z i in
            in_contains z (map signed_in (views older)) (subst (λ (y : Structure). In y (map signed_in (views older))) (sym same) (was_signed s j))));
      }

      -- the certificate of an operation that is pending in the view was released
      was_declared : (i : PendingItem) → In i (items x.lists) → HasReleased i.cert.user older (cert.spell i.cert)
      was_declared i j =
          let r = of_lists x.lists in
          let rules = unbroken (known_in (owner keys u) (holds_at keys u older is).story) r over.good.judged.unbroken in
          let by = unbroken_by x.table x.lists over.good.by_table in
          let was =
          over.good.judged.was_shown (shown_cert i) (in-right (shown_cert i) (map shown_structure x.lists.structures) (map shown_cert (items x.lists)) (map-in shown_cert (items x.lists) i j)) in
          let signature =
          verified (IsOwnKey keys) (pinned_key keys) x.table own mine i.cert.user (version_of 0 i.plan.vector) (cert.spell i.cert) i.signature (cert_verified x.table x.lists by.certs i j) (cert_by_super (pinned_key keys) r rules.by_super i j) in
          genuine keys older none (shown_cert i) was signature.0 signature.1 signature.2

  -- ---- runs

  abbrev AllTrue : List Event → Type 0
  AllTrue run = (x : View) → In x (views run) → IsTrueTable keys x

  accepted : IsOwnKey keys 0 (pinned_key keys) → (run : List Event) → IsRun keys run → AllGenuine keys run → AllTrue run → AreAccepted (views run)
  accepted mine [] is none own = tt
  accepted mine (e ∷ older) is none own =
      go (one_at_most e.call (client_of e.user older) e.after (tried_view e.user older))
      (accepted mine older is.2 none.1 (λ y i. own y (in-right y (accepted_by e.call (client_of e.user older) e.after (tried_view e.user older)) (views older) i)))
    where
      go : (accepted_by e.call (client_of e.user older) e.after (tried_view e.user older) ≡ []) ⊎ ((x : View) × (accepted_by e.call (client_of e.user older) e.after (tried_view e.user older) ≡ x ∷ []))
          → AreAccepted (views older) → AreAccepted (accepted_by e.call (client_of e.user older) e.after (tried_view e.user older) ++ views older)
      go (inl nothing) ih = subst (λ (xs : List View). AreAccepted (xs ++ views older)) (sym nothing) ih
      go (inr (x, one)) ih =
          let i = subst (λ (xs : List View). In x xs) (sym one) (inl refl) in
          subst (λ (xs : List View). AreAccepted (xs ++ views older)) (sym one)
          (accepted_over older is.2 none.1 e.user x (over_here keys e older is x i) (own x (in-left x (accepted_by e.call (client_of e.user older) e.after (tried_view e.user older)) (views older) i)) mine, ih)

  hashed_text : (run : List Event) → IsRun keys run → (x : View) → In x (views run) → (t : Bytes) → In t (texts_of x) → In t (flat_map hashed_at run)
  hashed_text [] is x i t j = absurd i
  hashed_text (e ∷ older) is x i t j =
      in-right t (hashed_at e) (flat_map hashed_at older)
      (elim (in-append x (accepted_by e.call (client_of e.user older) e.after (tried_view e.user older)) (views older) i) [
        | inl k ↦ (over_here keys e older is x k).good.judged.was_hashed t (view_text x t j)
        | inr k ↦ hashed_text older is.2 x k t j
      ])

  declared_item : IsOwnKey keys 0 (pinned_key keys) → (run : List Event) → IsRun keys run → AllGenuine keys run → AllTrue run → (x : View) → In x (views run) → (i : PendingItem) → In i (items x.lists) → HasReleased i.cert.user run (cert.spell i.cert)
  declared_item mine [] is none own x k i j = absurd k
  declared_item mine (e ∷ older) is none own x k i j =
      released_later e older i.cert.user (cert.spell i.cert)
      (elim (in-append x (accepted_by e.call (client_of e.user older) e.after (tried_view e.user older)) (views older) k) [
        | inl here ↦ was_declared older is.2 none.1 e.user x (over_here keys e older is x here) (own x k) mine i j
        | inr there ↦ declared_item mine older is.2 none.1 (λ y l. own y (in-right y (accepted_by e.call (client_of e.user older) e.after (tried_view e.user older)) (views older) l)) x there i j
      ])

-- ---- the laws

module _ (keys : Keys) (run : List Event) (is : IsRun keys run) (is_key : PinnedIsKey keys) (premises : IsGenuineRun keys run) where
  all_released_texts : AllGenuine keys run
  all_released_texts = premises.genuine

  all_true : (x : View) → In x (views run) → IsTrueTable keys x
  all_true x i u v k at = own_key_at everybody keys run is (super_honest keys run is_key premises) premises.added x i u v k tt at

  mine : IsOwnKey keys 0 (pinned_key keys)
  mine = pinned_own keys is_key

  pub are_accepted : AreAccepted (views run)
  are_accepted = accepted keys mine run is all_released_texts all_true

  in_hashed : (b : Bytes) → Contains (flat_map texts_of (views run)) b → Contains (hashed keys run) b
  in_hashed b has =
      let (x, i, j) = flat_map-of texts_of (views run) b (contains_in b (flat_map texts_of (views run)) has) in
      in_contains b (hashed keys run) (in-left b (flat_map hashed_at run) (first_texts (pinned_key keys)) (hashed_text keys run is x i b j))

  pub apart : NoViewCollision (views run)
  apart b c has_b has_c same = premises.no_collision b c (in_hashed b has_b) (in_hashed c has_c) same

  pub numbered : AreNumbered (views run)
  numbered = lines.numbered (views run) are_accepted apart

  pub ended : EndWithOwn (views run)
  ended = lines.ended (views run) are_accepted apart

  pub growing : Grow (views run)
  growing = lines.growing (views run) are_accepted apart

  pub agreed_by_plans : AgreeByPlans (views run)
  agreed_by_plans = lines.agreed_by_plans (views run) are_accepted apart

  pub agreed : Agree (views run)
  agreed = lines.agreed (views run) are_accepted apart

  -- the certificate of each operation that is pending in an accepted view was released
  pub item_released : (x : View) → In x (views run) → (i : PendingItem) → In i (items x.lists) → HasReleased i.cert.user run (cert.spell i.cert)
  item_released x n i j = declared_item keys mine run is all_released_texts all_true x n i j

  pub all_released : AreReleased run
  all_released = to_all (λ x. All (λ c. HasReleased c.user run (cert.spell c)) (line (views run) x)) (views run) (λ x i. to_all (λ c. HasReleased c.user run (cert.spell c)) (line (views run) x) (λ c j. of_line x c j))
    where
      of_line : (x : View) (c : Cert) → In c (line (views run) x) → HasReleased c.user run (cert.spell c)
      of_line x c j =
          let k = subst (λ (l : List Cert). In c l) (sym (lines.line_certs (views run) (user_of x) (number_of x))) j in
          let (i, m, same) = in-map (λ (i : PendingItem). i.cert) (lines.items_at (views run) (user_of x) (number_of x)) c k in
          let (y, n, p) = lines.line_pending (views run) (user_of x) (number_of x) i m in
          subst (λ (d : Cert). HasReleased d.user run (cert.spell d)) (sym same) (declared_item keys mine run is all_released_texts all_true y n i p)
