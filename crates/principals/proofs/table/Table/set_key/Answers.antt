use Rattle.std.proofs.Common.{◌≡◌, ◌<◌, List, ◌∷◌, Some, None, length, sym, ap, subst, ◌∙◌, inl, inr}
use Rattle.std.specs.Prelude.{slice_index_or}
use Rattle.std.specs.List.{slice_set}
use Rattle.std.specs.Ordering.{nat_cmp}
use Rattle.std.proofs.lemmas.Bool.{lt-ltb}
use Rattle.std.proofs.lemmas.Result.{err_from_is_err_and}
use Rattle.layout.specs.Ascending.{row_at}
use Rattle.principals.specs.declared.table.Renewal.{Renewal}
use Rattle.principals.specs.declared.table.Row.{Row}
use Rattle.principals.specs.Table.{Listing, Table, last_since, listing_refused, user_of, with_later}
use Rattle.principals.specs.TableText.{renewals, table as table_format}
use Rattle.principals.specs.Kept.{AreUsers}
use Rattle.principals.proofs.FitLaws.{renewed_fits}
use Rattle.principals.proofs.Parts.{on_err}
use Rattle.principals.proofs.Users.{all_renewed, fits_renewed, listed_none, may_renew, others_ascend, positive, refused_listed, refused_super, refused_unlisted, same_set, some_is}
use Rattle.principals.proofs.table.Table.set_key.Goals as goal

abbrev made : List Listing → List Row → Table
made users rows = record { users = users; rows = rows }

pub returns-then-is_of-clause-told : goal.returns-then-is_of-clause-told
returns-then-is_of-clause-told g c =
    rw (← c.self.view_is) (inl (refused_super c.self.inside.superuser c.self.inside.others.items c.self.inside.rows.items c.args.user c.args.number c.self.invariant.listed (sym c.is_of.ensures ∙ c.if-is_of.true)))

pub place_of-requires : goal.place_of-requires
place_of-requires g c = rw c.deref.ensures.value (others_ascend c.self.inside.superuser c.self.inside.others.items c.self.invariant.listed)

pub returns-in_default-clause-told : goal.returns-in_default-clause-told
returns-in_default-clause-told g c =
    let s = c.self.inside.superuser in
    let os = c.self.inside.others.items in
    let rows = c.self.inside.rows.items in
    let more = positive s os c.args.user c.self.invariant.listed (sym c.is_of.ensures ∙ c.if-is_of.false) in
    let free = rw c.deref.ensures.value at c.in_default.ensures in
    rw (← c.self.view_is) (inl (refused_unlisted s os rows c.args.user c.args.number c.self.invariant.listed more (listed_none os c.args.user free.found)))

pub returns-in-Some-clause-told : goal.returns-in-Some-clause-told
returns-in-Some-clause-told g c =
    let s = c.self.inside.superuser in
    let os = c.self.inside.others.items in
    let rows = c.self.inside.rows.items in
    let more = positive s os c.args.user c.self.invariant.listed (sym c.is_of.ensures ∙ c.if-is_of.false) in
    let stands = rw c.deref.ensures.value at c.in-Ok.ensures in
    let d = c.index.result.now in
    let at : row_at nat_cmp user_of os c.args.user ≡ Some d = stands.found d ∙ ap Some (sym c.index.ensures) in
    rw (← c.self.view_is) (inl (refused_listed s os rows c.args.user c.args.number d c.self.invariant.listed more at ∙ sym c.refusal.ensures ∙ c.in-Some.is))

pub push_key-requires : goal.push_key-requires
push_key-requires g c =
    let s = c.self.inside.superuser in
    let os = c.self.inside.others.items in
    let rows = c.self.inside.rows.items in
    let more = positive s os c.args.user c.self.invariant.listed (sym c.is_of.ensures ∙ c.if-is_of.false) in
    let stands = rw c.deref.ensures.value at c.in-Ok.ensures in
    let d = c.index.result.now in
    let at : row_at nat_cmp user_of os c.args.user ≡ Some d = stands.found d ∙ ap Some (sym c.index.ensures) in
    let none : listing_refused c.args.number d ≡ None = sym c.refusal.ensures ∙ c.in_default-refusal.is in
    let same : c.index_mut.result.now ≡ d = some_is _ _ (ap Some c.index_mut.ensures.value ∙ sym (stands.found c.index_mut.result.now) ∙ at) in
    subst (λ (x : Listing). length x.later < 15) (sym same) (may_renew c.args.number d none).0

pub returns-in_err-push_key-clause-told : goal.returns-in_err-push_key-clause-told
returns-in_err-push_key-clause-told g c =
    let s = c.self.inside.superuser in
    let os = c.self.inside.others.items in
    let rows = c.self.inside.rows.items in
    let more = positive s os c.args.user c.self.invariant.listed (sym c.is_of.ensures ∙ c.if-is_of.false) in
    let stands = rw c.deref.ensures.value at c.in-Ok.ensures in
    let d = c.index.result.now in
    let at : row_at nat_cmp user_of os c.args.user ≡ Some d = stands.found d ∙ ap Some (sym c.index.ensures) in
    let none : listing_refused c.args.number d ≡ None = sym c.refusal.ensures ∙ c.in_default-refusal.is in
    let p = err_from_is_err_and c.from_residual.result c.from_residual.ensures.1 in
    rw (p.1, ← c.self.view_is) (inr (refused_listed s os rows c.args.user c.args.number d c.self.invariant.listed more at ∙ none, p.2))

pub returns-in_err-push_key-clause-err : goal.returns-in_err-push_key-clause-err
returns-in_err-push_key-clause-err g c =
    let s = c.self.inside.superuser in
    let os = c.self.inside.others.items in
    let kept : slice_set os c.in-Ok.place c.push_key.new.listing ≡ os = ap (slice_set os c.in-Ok.place) c.in_err-push_key.ensures.err ∙ same_set os c.in-Ok.place c.index_mut.result.now c.index_mut.ensures.value in
    rw (← c.self.view_is) (on_err c.from_residual.result _ (ap (λ (xs : List Listing). made (s ∷ xs) c.self.inside.rows.items) kept))

pub invariant_of-self : goal.invariant_of-self
invariant_of-self g c =
    let os = c.self.inside.others.items in
    let kept : slice_set os c.in-Ok.place c.push_key.new.listing ≡ os = ap (slice_set os c.in-Ok.place) c.in_err-push_key.ensures.err ∙ same_set os c.in-Ok.place c.index_mut.result.now c.index_mut.ensures.value in
    record {
      listed = subst (λ (xs : List Listing). AreUsers (c.self.inside.superuser ∷ xs)) (sym kept) c.self.invariant.listed;
      few = c.self.invariant.few;
      marked = c.self.invariant.marked;
    }

pub invariant_of-self-2 : goal.invariant_of-self-2
invariant_of-self-2 g c =
    let s = c.self.inside.superuser in
    let os = c.self.inside.others.items in
    let rows = c.self.inside.rows.items in
    let more = positive s os c.args.user c.self.invariant.listed (sym c.is_of.ensures ∙ c.if-is_of.false) in
    let stands = rw c.deref.ensures.value at c.in-Ok.ensures in
    let d = c.index.result.now in
    let at : row_at nat_cmp user_of os c.args.user ≡ Some d = stands.found d ∙ ap Some (sym c.index.ensures) in
    let none : listing_refused c.args.number d ≡ None = sym c.refusal.ensures ∙ c.in_default-refusal.is in
    let same : c.index_mut.result.now ≡ d = some_is _ _ (ap Some c.index_mut.ensures.value ∙ sym (stands.found c.index_mut.result.now) ∙ at) in
    let may = may_renew c.args.number d none in
    let k : Renewal = record { since = c.args.number; key = c.args.key } in
    let l : Listing = slice_index_or os c.in-Ok.place d in
    let new : c.push_key.new.listing ≡ with_later k l = (rw c.get-since.ensures.same at c.in_ok-push_key.ensures.ok) ∙ ap (with_later k) (same ∙ c.index.ensures) in
    let few : length l.later < 15 = subst (λ (x : Listing). length x.later < 15) c.index.ensures may.0 in
    let late : last_since l.since l.later < c.args.number = subst (λ (x : Listing). last_since x.since x.later < c.args.number) c.index.ensures may.1 in
    let one : (renewals.row l).Fits k = ((c.get-since.ensures.fits, lt-ltb _ _ late), c.key_invariant.ensures) in
    record {
      listed = subst (λ (x : Listing). AreUsers (s ∷ slice_set os c.in-Ok.place x)) (sym new) (fits_renewed s os c.args.user c.args.number c.in-Ok.place c.args.key c.self.invariant.listed stands more d few one);
      few = c.self.invariant.few;
      marked = c.self.invariant.marked;
    }

pub returns-clause-ok : goal.returns-clause-ok
returns-clause-ok g c =
    let s = c.self.inside.superuser in
    let os = c.self.inside.others.items in
    let rows = c.self.inside.rows.items in
    let more = positive s os c.args.user c.self.invariant.listed (sym c.is_of.ensures ∙ c.if-is_of.false) in
    let stands = rw c.deref.ensures.value at c.in-Ok.ensures in
    let d = c.index.result.now in
    let at : row_at nat_cmp user_of os c.args.user ≡ Some d = stands.found d ∙ ap Some (sym c.index.ensures) in
    let none : listing_refused c.args.number d ≡ None = sym c.refusal.ensures ∙ c.in_default-refusal.is in
    let same : c.index_mut.result.now ≡ d = some_is _ _ (ap Some c.index_mut.ensures.value ∙ sym (stands.found c.index_mut.result.now) ∙ at) in
    let may = may_renew c.args.number d none in
    let k : Renewal = record { since = c.args.number; key = c.args.key } in
    let l : Listing = slice_index_or os c.in-Ok.place d in
    let new : c.push_key.new.listing ≡ with_later k l = (rw c.get-since.ensures.same at c.in_ok-push_key.ensures.ok) ∙ ap (with_later k) (same ∙ c.index.ensures) in
    let few : length l.later < 15 = subst (λ (x : Listing). length x.later < 15) c.index.ensures may.0 in
    let late : last_since l.since l.later < c.args.number = subst (λ (x : Listing). last_since x.since x.later < c.args.number) c.index.ensures may.1 in
    let one : (renewals.row l).Fits k = ((c.get-since.ensures.fits, lt-ltb _ _ late), c.key_invariant.ensures) in
    let all = ap (λ (x : Listing). s ∷ slice_set os c.in-Ok.place x) new ∙ all_renewed s os c.args.user c.args.number c.in-Ok.place c.args.key c.self.invariant.listed stands more d in
    rw (← c.self.view_is) (ap (λ (us : List Listing). made us rows) all)

pub returns-clause-told : goal.returns-clause-told
returns-clause-told g c =
    let s = c.self.inside.superuser in
    let os = c.self.inside.others.items in
    let rows = c.self.inside.rows.items in
    let more = positive s os c.args.user c.self.invariant.listed (sym c.is_of.ensures ∙ c.if-is_of.false) in
    let stands = rw c.deref.ensures.value at c.in-Ok.ensures in
    let d = c.index.result.now in
    let at : row_at nat_cmp user_of os c.args.user ≡ Some d = stands.found d ∙ ap Some (sym c.index.ensures) in
    let none : listing_refused c.args.number d ≡ None = sym c.refusal.ensures ∙ c.in_default-refusal.is in
    rw (← c.self.view_is) (refused_listed s os rows c.args.user c.args.number d c.self.invariant.listed more at ∙ none)

pub returns-clause-fits : goal.returns-clause-fits
returns-clause-fits g c =
    let s = c.self.inside.superuser in
    let os = c.self.inside.others.items in
    let rows = c.self.inside.rows.items in
    let more = positive s os c.args.user c.self.invariant.listed (sym c.is_of.ensures ∙ c.if-is_of.false) in
    let stands = rw c.deref.ensures.value at c.in-Ok.ensures in
    let d = c.index.result.now in
    let at : row_at nat_cmp user_of os c.args.user ≡ Some d = stands.found d ∙ ap Some (sym c.index.ensures) in
    let none : listing_refused c.args.number d ≡ None = sym c.refusal.ensures ∙ c.in_default-refusal.is in
    let same : c.index_mut.result.now ≡ d = some_is _ _ (ap Some c.index_mut.ensures.value ∙ sym (stands.found c.index_mut.result.now) ∙ at) in
    let may = may_renew c.args.number d none in
    let k : Renewal = record { since = c.args.number; key = c.args.key } in
    let l : Listing = slice_index_or os c.in-Ok.place d in
    let new : c.push_key.new.listing ≡ with_later k l = (rw c.get-since.ensures.same at c.in_ok-push_key.ensures.ok) ∙ ap (with_later k) (same ∙ c.index.ensures) in
    let few : length l.later < 15 = subst (λ (x : Listing). length x.later < 15) c.index.ensures may.0 in
    let late : last_since l.since l.later < c.args.number = subst (λ (x : Listing). last_since x.since x.later < c.args.number) c.index.ensures may.1 in
    let one : (renewals.row l).Fits k = ((c.get-since.ensures.fits, lt-ltb _ _ late), c.key_invariant.ensures) in
    rw (← c.self.view_is) (λ fits. subst (λ (x : Listing). table_format.Fits (made (s ∷ slice_set os c.in-Ok.place x) rows)) (sym new) (renewed_fits s os rows c.args.user c.args.number c.in-Ok.place c.args.key d c.self.invariant.listed stands more few one fits))
