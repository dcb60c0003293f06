-- The tables of accepted views list the own keys of those users whom user 0's client added so.
use Rattle.std.proofs.Common.{◌≡◌, ℕ, zero, suc, ◌+◌, Bool, true, false, List, [], ◌∷◌, Option, Some, None, IsSome, IfSome, refl, sym, ap, ◌∙◌, subst, if◌then◌else◌, arith}
use Rattle.std.specs.List.{All}
use Rattle.std.proofs.lemmas.List.Elements.{All-cons, All-head, All-nil, All-tail, All-weaker}
use Rattle.layout.specs.Types.{Digest, Key, User, Version}
use Rattle.principals.specs.declared.table.Renewal.{Renewal}
use Rattle.principals.specs.Table.{Listing, Table, genesis as first_users, key_at}
use Rattle.principals.proofs.ListedKeys.{EachKey, each_added, each_set, key_at_has}
use Rattle.update_cert.specs.Change.{Action, Make, Put, Remove, Link, Unlink, AddUser, AddMember, DropMember, SetKey, Change}
use Rattle.update_cert.specs.Cert.{Cert}
use Rattle.update_cert.specs.Tables.{table_after, table_after_change, table_becomes, table_effect}
use Rattle.pending_list.specs.declared.signed.Signed.{Signed}
use Rattle.agreement.specs.Runs.{View}
use Rattle.agreement.proofs.Members.{In, of_all, to_all}
use Rattle.client_runs.specs.Released.{released, views}
use Rattle.client_runs.specs.Runs.{Event, IsOwnKey, IsRun, Keys, pinned as pinned_key}
use Rattle.fork_consistency.specs.Premises.{AddsOwnKeysOf, GivesOwnKeyOf, TextAddsOwnKeysOf}
use Rattle.fork_consistency.specs.ByCertificates.{HasAllUpTo, ListOwnKeysOf, certificate, certificates_up_to, tables_after}
use Rattle.fork_consistency.proofs.ByCertificates.{SuperIsHonest, view}
use Rattle.fork_consistency.proofs.Genuine.{pinned_own}
use Rattle.fork_consistency.proofs.Certificates.{IsReleased, all_before, one_more, released_cert, tables_more}

-- ---- listings

module _ (some : User → Type 0) (Own : User → Key → Type 0) where
  -- one of these users has its own keys alone
  abbrev MayHave : User → Key → Type 0
  MayHave u k = some u → Own u k

  abbrev IsOwn : Listing → Type 0
  IsOwn = EachKey MayHave

  abbrev AddsOwn : Action Digest → Type 0
  AddsOwn (AddUser u k) = some u → Own u k
  AddsOwn (SetKey u k) = some u → Own u k
  AddsOwn other = Unit {0}

  becomes : (n : Version) (a : Action Digest) (t : Table) → AddsOwn a → All IsOwn t.users → All IsOwn (table_becomes n a t).users
  becomes n (AddUser u k) t own all = each_added MayHave n u k t own all
  becomes n (SetKey u k) t own all = each_set MayHave n u k t own all
  becomes n (AddMember g u) t own all = all
  becomes n (DropMember g u) t own all = all
  becomes n (Make new) t own all = all
  becomes n (Put new) t own all = all
  becomes n Remove t own all = all
  becomes n (Link entry) t own all = all
  becomes n (Unlink name) t own all = all

  one_change : (u n : ℕ) (c : Change Digest) (t : Table) → AddsOwn c.action → All IsOwn t.users → All IsOwn (table_after_change u n c t).users
  one_change u n c t own all = go (table_effect u n c t)
    where
      go : (b : Bool) → All IsOwn (if b then table_becomes n c.action t else t).users
      go true = becomes n c.action t own all
      go false = all

  after_own : (u n : ℕ) (cs : List (Change Digest)) (t : Table) → All (λ c. AddsOwn c.action) cs → All IsOwn t.users → All IsOwn (table_after u n cs t).users
  unfolding table_after
  after_own u n [] t own all = all
  after_own u n (c ∷ cs) t own all =
      after_own u n cs (table_after_change u n c t) (All-tail (λ (d : Change Digest). AddsOwn d.action) c cs own) (one_change u n c t (All-head (λ (d : Change Digest). AddsOwn d.action) c cs own) all)

gives : (some : User → Type 0) (keys : Keys) (a : Action Digest) → GivesOwnKeyOf some keys a → AddsOwn some (IsOwnKey keys) a
gives some keys (AddUser u k) own = own
gives some keys (SetKey u k) own = own
gives some keys (Make new) own = tt
gives some keys (Put new) own = tt
gives some keys Remove own = tt
gives some keys (Link entry) own = tt
gives some keys (Unlink name) own = tt
gives some keys (AddMember g u) own = tt
gives some keys (DropMember g u) own = tt

module _ (some : User → Type 0) (keys : Keys) (run : List Event) (is : IsRun keys run) (honest : SuperIsHonest keys run) (added : AddsOwnKeysOf some keys run) where
  abbrev own_keys : User → Key → Type 0
  own_keys = IsOwnKey keys

  abbrev key : Key
  key = pinned_key keys

  cert_gives : (k : ℕ) (c : Cert) → (of : IsReleased keys run is 0 c k) → All (λ (d : Change Digest). AddsOwn some own_keys d.action) c.changes
  cert_gives k c of =
      let text = of.text in
      let given = of_all (TextAddsOwnKeysOf some keys) (released 0 run) added text.text text.there in
      let own = subst (λ (o : Option (Signed Cert)). IfSome o (λ y. All (λ (z : Change Digest). GivesOwnKeyOf some keys z.action) y.value.changes)) text.read given in
      subst (λ (x : Cert). All (λ (d : Change Digest). AddsOwn some own_keys d.action) x.changes) text.value
      (All-weaker (λ (z : Change Digest). GivesOwnKeyOf some keys z.action) (λ (z : Change Digest). AddsOwn some own_keys z.action) (λ z g. gives some keys z.action g) text.one.value.changes own)

  abbrev table_at : ℕ → Table
  table_at n = tables_after (certificates_up_to n 0 run) (first_users key)

  lists_own : (n : ℕ) → HasAllUpTo n 0 run → All (IsOwn some own_keys) (table_at n).users
  lists_own zero all = All-cons (IsOwn some own_keys) (record { user = 0; since = 0; key = key; later = [] }) [] ((λ out. pinned_own keys honest.pinned), All-nil (λ (r : Renewal). MayHave some own_keys 0 r.key)) (All-nil (IsOwn some own_keys))
  lists_own (suc n) all =
      let one : suc n ≡ n + 1 = omega arith in
      subst (λ (k : ℕ). All (IsOwn some own_keys) (table_at k).users) (sym one) (step (lists_own n) (all_before 0 run n (subst (λ (k : ℕ). HasAllUpTo k 0 run) one all)))
    where
      step : (HasAllUpTo n 0 run → All (IsOwn some own_keys) (table_at n).users) → HasAllUpTo n 0 run × IsSome (certificate 0 run (n + 1)) → All (IsOwn some own_keys) (table_at (n + 1)).users
      step before has = go (certificate 0 run (n + 1)) refl has.1
        where
          go : (o : Option Cert) → certificate 0 run (n + 1) ≡ o → IsSome o → All (IsOwn some own_keys) (table_at (n + 1)).users
          go None at none = absurd (cc none)
          go (Some c) at there =
              let of = released_cert keys run is 0 (n + 1) c at in
              let made = after_own some own_keys c.user c.number c.changes (table_at n) (cert_gives (n + 1) c of) (before has.0) in
              subst (λ (t : Table). All (IsOwn some own_keys) t.users)
              (sym (ap (λ (cs : List Cert). tables_after cs (first_users key)) (one_more 0 run n c at) ∙ tables_more (certificates_up_to n 0 run) c (first_users key))) made

  viewed : (x : View) → In x (views run) → All (IsOwn some own_keys) x.table.users
  viewed x i = let w = view keys run is honest x i in subst (λ (t : Table). All (IsOwn some own_keys) t.users) (sym w.at.is) (lists_own w.number w.at.released)

  -- a view lists none of these users with a key but an own one, at whatever number of user 0's
  pub own_key_at : (x : View) → In x (views run) → (u : User) (v : Version) (k : Key) → some u → key_at u v x.table ≡ Some k → IsOwnKey keys u k
  own_key_at x i u v k out at = key_at_has (MayHave some own_keys) u x.table k (viewed x i) v at out

  pub list_own_keys : ListOwnKeysOf some keys run
  list_own_keys =
      to_all (λ x. (u : User) (v : Version) (k : Key) → some u → key_at u v x.table ≡ Some k → IsOwnKey keys u k) (views run)
      (λ x i u v k one at. own_key_at x i u v k one at)
