-- The keys of a user, read one after the other.
use Rattle.std.proofs.Common.{◌≡◌, ℕ, ◌-◌, List, Option, Ok, Err, refl, ap, ◌∙◌}
use Rattle.layout.specs.declared.error.ReadError.{ReadError}
use Rattle.std.specs.Int.{w8}
use Rattle.layout.specs.Format.{read_rows, read_state, uint_in}
use Rattle.principals.specs.Table.{Listing}
use Rattle.principals.specs.TableText.{Users, key, keys_after, keys_of, listed_at, none_of, renewals, several, user_rows, with_first}
use Rattle.principals.proofs.Parts.{came_in, first_kept, later_in, renewals_read, users_read}

pub keys_are : (b : Option Listing) (user n : ℕ) (bytes one two rest : List ℕ) (since : ℕ) (k : List ℕ) (m : Listing) → (listed_at b).read bytes ≡ Ok (since, one) → key.read one ≡ Ok (k, two)
    → read_state renewals (n - 1) (with_first user (record { since = since; key = k })) two ≡ Ok (m, rest) → (keys_after b user n).read bytes ≡ Ok (keys_of m, rest)
keys_are b user n bytes one two rest since k m e1 e2 e3 =
    let l = with_first user (record { since = since; key = k }) in
    let rows : read_rows renewals (n - 1) l two ≡ Ok (m.later, rest) = renewals_read l (n - 1) two refl ∙ ap later_in e3 in
    let kept = first_kept l (n - 1) two m rest e3 in
    rw (e1, e2, rows, kept.1, kept.2) refl

pub keys_fail : (b : Option Listing) (user n : ℕ) (bytes one two : List ℕ) (since : ℕ) (k : List ℕ) (e : ReadError) → (listed_at b).read bytes ≡ Ok (since, one) → key.read one ≡ Ok (k, two)
    → read_state renewals (n - 1) (with_first user (record { since = since; key = k })) two ≡ Err e → (keys_after b user n).read bytes ≡ Err e
keys_fail b user n bytes one two since k e e1 e2 e3 =
    let l = with_first user (record { since = since; key = k }) in
    let rows : read_rows renewals (n - 1) l two ≡ Err e = renewals_read l (n - 1) two refl ∙ ap later_in e3 in
    rw (e1, e2, rows) refl

-- and users, where one has more than one key
pub several_are : (bytes one rest : List ℕ) (n : ℕ) (s : Users) → (uint_in w8 1 255).read bytes ≡ Ok (n, one) → read_state user_rows n (none_of n) one ≡ Ok (s, rest) → several.read bytes ≡ Ok (s.came, rest)
several_are bytes one rest n s e1 e2 =
    let rows : read_rows user_rows n (none_of n) one ≡ Ok (s.came, rest) = users_read n n one ∙ ap came_in e2 in
    rw (e1, rows) refl
