-- Formats: for a type of values its spelling as bytes, and reading with the first fault.
-- The faults stand in docs/FORMATS.md.
use Rattle.std.specs.Prelude.{◌≡◌, ℕ, zero, suc, ◌<◌, ◌^◌, Bool, true, ◌&&◌, List, [], ◌∷◌, ◌++◌, length, take, drop, slice_index, Option, Some, None, Result, Ok, Err, nat_lt, nat_le, nat_eq, ◌==◌, IsSomeAnd, if◌then◌else◌}
use Rattle.std.specs.Int.{Width, byte_len, from_be_bytes, to_be_bytes}
use Rattle.std.specs.List.{starts_with}
use Rattle.std.specs.Option.{option_map_or}
use Rattle.layout.specs.Types.{Bytes}
use Rattle.layout.specs.declared.error.ReadError.{ReadError}
use Rattle.layout.specs.declared.error.ReadError.TheVariants.{Short, BadTag, Range, Trailing, Memory}

infixl 10 ◌>>=◌
abbrev pub ◌>>=◌ : {A B : Type 0} → Result A ReadError → (A → Result B ReadError) → Result B ReadError
(Ok x) >>= f = f x
(Err e) >>= f = Err e

-- What reading answers: the value and the bytes after it, or the first fault.
abbrev pub Answer : Type 0 → Type 0
Answer A = Result (A × Bytes) ReadError

pub record Format (A : Type 0) : Type 1 where
  -- the one spelling
  pub spell : A → Bytes
  -- a text with the spelling at its end, field by field, as code writes it
  pub onto : Bytes → A → Bytes
  -- what is read from the front of bytes
  pub read : Bytes → Answer A
  -- what has a spelling
  pub Fits : A → Type 0

-- What a function returned, and the bytes that it left, are what reading gives, unless memory ran out.
abbrev pub Fails : {Y : Type 0} → ReadError → Result Y ReadError → Type 0
Fails e read = ¬ (e ≡ Memory) → read ≡ Err e

abbrev pub ReadsAs : {X Y : Type 0} → (X → Y) → Result X ReadError → Bytes → Answer Y → Type 0
ReadsAs view (Ok x) left read = read ≡ Ok (view x, left)
ReadsAs view (Err e) left read = Fails e read

abbrev pub Reads : {X : Type 0} → Result X ReadError → Bytes → Answer X → Type 0
Reads r left read = ReadsAs (λ x. x) r left read

-- the text begins with these bytes
abbrev pub BeginsWith : Bytes → Bytes → Type 0
BeginsWith text front = take (length front) text ≡ front

abbrev pub IsBytes : Bytes → Type 0
IsBytes bytes = (i : ℕ) → slice_index bytes i < 256

abbrev pub ends : Bytes → Bool
ends bytes = length bytes == 0

-- ---- what a format promises

-- the bytes are the spelling of a value that fits, and then the rest
pub record Takes {A : Type 0} (f : Format A) (bytes : Bytes) (x : A) (rest : Bytes) : Type 0 where
  pub parts : bytes ≡ f.spell x ++ rest
  pub rest_fits : IsBytes rest
  pub fits : f.Fits x

-- what is read is spelled so, what is written is the spelling, and what fits and is spelled so is read
pub record Lawful {A : Type 0} (f : Format A) : Type 0 where
  pub takes : (bytes : Bytes) (x : A) (rest : Bytes) → IsBytes bytes → f.read bytes ≡ Ok (x, rest)
      → Takes f bytes x rest
  pub onto : (old : Bytes) (x : A) → f.onto old x ≡ old ++ f.spell x
  pub again : (x : A) (rest : Bytes) → f.Fits x → f.read (f.spell x ++ rest) ≡ Ok (x, rest)

-- ---- fields

-- the bytes of a number, the high one first: a name that goals show, and that only laws of numbers open
unfoldable pub be : Width → ℕ → Bytes
be w n = to_be_bytes w n

-- a number of so many bytes
abbrev pub uint : Width → Format ℕ
uint w = record {
  spell = be w;
  onto = λ old n. old ++ be w n;
  read = λ bytes. if nat_lt (length bytes) (byte_len w) then Err Short
      else Ok (from_be_bytes w (take (byte_len w) bytes), drop (byte_len w) bytes);
  Fits = λ n. n < 256 ^ byte_len w;
}

-- that many bytes, whatever they are
abbrev pub raw : ℕ → Format Bytes
raw count = record {
  spell = λ bytes. bytes;
  onto = λ old bytes. old ++ bytes;
  read = λ bytes. if nat_lt (length bytes) count then Err Short else Ok (take count bytes, drop count bytes);
  Fits = λ bytes. (length bytes ≡ count) × IsBytes bytes;
}

-- these very bytes
abbrev pub tagged : Bytes → Format (Unit {0})
tagged tag = record {
  spell = λ _. tag;
  onto = λ old _. old ++ tag;
  read = λ bytes. if nat_lt (length bytes) (length tag) then Err Short else if starts_with nat_eq bytes tag
      then Ok (tt, drop (length tag) bytes) else Err BadTag;
  Fits = λ _. Unit {0};
}

-- a value that passes a test, which is made before anything after it is read
abbrev pub guarded : {A : Type 0} → Format A → (A → Bool) → ReadError → Format A
guarded f test fault = record {
  spell = f.spell;
  onto = f.onto;
  read = λ bytes. f.read bytes >>= λ x. if test x.0 then Ok x else Err fault;
  Fits = λ x. f.Fits x × (test x ≡ true);
}

abbrev pub uint_in : Width → ℕ → ℕ → Format ℕ
uint_in w low high = guarded (uint w) (λ n. nat_le low n && nat_le n high) Range

-- a value, and after it one whose format the first decides
abbrev pub followed : {A B : Type 0} → Format A → (A → Format B) → Format (A × B)
followed f g = record {
  spell = λ p. f.spell p.0 ++ (g p.0).spell p.1;
  onto = λ old p. (g p.0).onto (f.onto old p.0) p.1;
  read = λ bytes. f.read bytes >>= λ x. (g x.0).read x.1 >>= λ y. Ok ((x.0, y.0), y.1);
  Fits = λ p. f.Fits p.0 × (g p.0).Fits p.1;
}

abbrev pub pair : {A B : Type 0} → Format A → Format B → Format (A × B)
pair f g = followed f (λ _. g)

-- a value after a tag
abbrev pub headed : {A : Type 0} → Bytes → Format A → Format A
headed tag f = record {
  spell = λ x. tag ++ f.spell x;
  onto = λ old x. f.onto (old ++ tag) x;
  read = λ bytes. (tagged tag).read bytes >>= λ t. f.read t.1;
  Fits = f.Fits;
}

-- the same values, seen another way
abbrev pub mapped : {A B : Type 0} → (A → B) → (B → A) → Format A → Format B
mapped to from f = record {
  spell = λ y. f.spell (from y);
  onto = λ old y. f.onto old (from y);
  read = λ bytes. f.read bytes >>= λ x. Ok (to x.0, x.1);
  Fits = λ y. f.Fits (from y);
}

-- rows: a state decides the format of the next one, and each row moves the state on
pub record Rows (S A : Type 0) : Type 1 where
  pub row : S → Format A
  pub next : S → A → S

-- the format of a row, where the one before is known
abbrev pub RowAfter : Type 0 → Type 1
RowAfter A = Option A → Format A

-- rows, where the one before decides the format of the next
abbrev pub after_row : {A : Type 0} → RowAfter A → Rows (Option A) A
after_row row = record { row = row; next = λ _ x. Some x }

unfoldable pub read_rows : {S A : Type 0} → Rows S A → ℕ → S → Bytes → Answer (List A)
read_rows rows zero state bytes = Ok ([], bytes)
read_rows rows (suc n) state bytes = (rows.row state).read bytes >>= λ x. read_rows rows n (rows.next state x.0) x.1
    >>= λ xs. Ok (x.0 ∷ xs.0, xs.1)

unfoldable pub spell_rows : {S A : Type 0} → Rows S A → S → List A → Bytes
spell_rows rows state [] = []
spell_rows rows state (x ∷ xs) = (rows.row state).spell x ++ spell_rows rows (rows.next state x) xs

unfoldable pub rows_onto : {S A : Type 0} → Rows S A → S → Bytes → List A → Bytes
rows_onto rows state old [] = old
rows_onto rows state old (x ∷ xs) = rows_onto rows (rows.next state x) ((rows.row state).onto old x) xs

unfoldable pub FitRows : {S A : Type 0} → Rows S A → S → List A → Type 0
FitRows rows state [] = Unit {0}
FitRows rows state (x ∷ xs) = (rows.row state).Fits x × FitRows rows (rows.next state x) xs

-- the state after these rows
unfoldable pub state_after : {S A : Type 0} → Rows S A → S → List A → S
state_after rows state [] = state
state_after rows state (x ∷ xs) = state_after rows (rows.next state x) xs

-- the state after that many rows are read
abbrev pub read_state : {S A : Type 0} → Rows S A → ℕ → S → Bytes → Answer S
read_state rows count state bytes = read_rows rows count state bytes >>= λ x. Ok (state_after rows state x.0, x.1)

-- that many rows, the first one at this state
abbrev pub rows_from : {S A : Type 0} → Rows S A → S → ℕ → Format (List A)
rows_from rows first count = record {
  spell = spell_rows rows first;
  onto = rows_onto rows first;
  read = read_rows rows count first;
  Fits = λ xs. (length xs ≡ count) × FitRows rows first xs;
}

abbrev pub rows : {A : Type 0} → RowAfter A → ℕ → Format (List A)
rows row count = rows_from (after_row row) None count

-- a size, and after it what has that size
abbrev pub sized : {A : Type 0} → Format ℕ → (A → ℕ) → (ℕ → Format A) → Format A
sized count size f = mapped (λ p. p.1) (λ x. (size x, x)) (followed count f)

-- a count, and as many rows
abbrev pub listed_from : {S A : Type 0} → Format ℕ → Rows S A → S → Format (List A)
listed_from count rows first = sized count length (rows_from rows first)

abbrev pub listed : {A : Type 0} → Format ℕ → RowAfter A → Format (List A)
listed count row = listed_from count (after_row row) None

-- all of the bytes
abbrev pub whole : {A : Type 0} → Format A → Bytes → Result A ReadError
whole f bytes = f.read bytes >>= λ x. if ends x.1 then Ok x.0 else Err Trailing

-- What a function returned, seen by view, is what reading gives, unless memory ran out.
abbrev pub Gives : {X Y : Type 0} → (X → Y) → Result X ReadError → Result Y ReadError → Type 0
Gives view (Ok x) read = read ≡ Ok (view x)
Gives view (Err e) read = Fails e read

-- a size, and as many bytes
abbrev pub string : Format ℕ → Format Bytes
string count = sized count length raw

-- a text inside another: its size, and in that many bytes the text and nothing else
abbrev pub nested : {A : Type 0} → Format ℕ → Format A → Format A
nested count f = record {
  spell = λ x. (string count).spell (f.spell x);
  onto = λ old x. (string count).onto old (f.spell x);
  read = λ bytes. (string count).read bytes >>= λ t. whole f t.0 >>= λ x. Ok (x, t.1);
  Fits = λ x. count.Fits (length (f.spell x)) × f.Fits x;
}

-- no bytes
abbrev pub nothing : Format (Unit {0})
nothing = record { spell = λ _. []; onto = λ old _. old; read = λ bytes. Ok (tt, bytes); Fits = λ _. Unit {0} }

-- one variant of an enum: from is Some only at that variant
abbrev pub variant : {A B : Type 0} → (A → B) → (B → Option A) → Format A → Format B
variant to from f = record {
  spell = λ y. option_map_or f.spell (from y) [];
  onto = λ old y. option_map_or (f.onto old) (from y) old;
  read = λ bytes. f.read bytes >>= λ x. Ok (to x.0, x.1);
  Fits = λ y. IsSomeAnd (from y) f.Fits;
}
