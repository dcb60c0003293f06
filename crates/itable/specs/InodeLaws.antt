-- Nobody has to believe this file: laws, which are proved.
-- I-nodes: what is read is spelled so, and what fits and is spelled so is read.
use Rattle.std.proofs.Common.{◌≡◌, inl, inr, refl, arith}
use Rattle.std.specs.Prelude.{ℕ}
use Rattle.std.specs.Int.{w8, w16, w32}
use Rattle.std.proofs.lemmas.Bool.{eq-eqb, ne_eqb, cases_eq}
use Rattle.layout.specs.Format.{uint_in, raw, Lawful}
use Rattle.layout.specs.Laws.{laws, in_range, lawful_mapped, lawful_uint_in, lawful_listed, lawful_raw, wide8, wide16, wide32}
use Rattle.itable.specs.declared.inode.Kind.{Kind}
use Rattle.itable.specs.declared.inode.Kind.TheVariants.{File, Directory}
use Rattle.itable.specs.Inode.{number_of, kind_of, kind, size, digests, inode}

kind_again : (k : Kind) → kind_of (number_of k) ≡ k
kind_again File = refl
kind_again Directory = refl

number_again : (n : ℕ) → (uint_in w8 1 2).Fits n → number_of (kind_of n) ≡ n
number_again n fits =
    let range = in_range w8 1 2 n fits in
    elim (cases_eq n 1) [
      | inl e ↦ rw (eq-eqb n 1 e) (omega arith)
      | inr e ↦ rw (ne_eqb n 1 e) (omega arith)
    ]

pub lawful_kind : Lawful kind
lawful_kind = lawful_mapped kind_of number_of (uint_in w8 1 2) kind_again number_again (lawful_uint_in w8 1 2 wide8)

pub lawful_size : (k : Kind) → Lawful (size k)
lawful_size File = lawful_uint_in w32 0 4194304 wide32
lawful_size Directory = lawful_uint_in w32 6 265222 wide32

pub lawful_digests : (count : ℕ) → Lawful (digests count)
lawful_digests count = lawful_listed (uint_in w16 count count) (λ _. raw 32) (lawful_uint_in w16 count count wide16) (λ _. lawful_raw 32)

pub lawful_inode : Lawful inode
lawful_inode = search (laws, lawful_kind, lawful_size, lawful_digests) depth 9
