-- Frames: the length of a body, 1 to 2,097,152, and the body. A request's body is its kind and a payload, a reply's is
-- its status and a payload, which only status 0 has.
-- The bytes stand in docs/FORMATS.md.
use Rattle.std.specs.Prelude.{ℕ, Bool, ◌||◌, List, [], ◌∷◌, length, Option, Some, None, option_map, option_and_then, ◌==◌, if◌then◌else◌}
use Rattle.std.specs.Int.{w32}
use Rattle.layout.specs.Types.{Bytes}
use Rattle.layout.specs.Format.{Format, uint_in, string}
use Rattle.wire.specs.declared.kinds.RequestKind.{RequestKind}
use Rattle.wire.specs.declared.kinds.RequestKind.TheVariants.{Update, Commit, Put, Get, Sync}
use Rattle.wire.specs.declared.kinds.Status.{Status}
use Rattle.wire.specs.declared.kinds.Status.TheVariants.{Ok, Form, UnknownUser, BadSignature, WrongNumber, NotPending, Busy, TooLarge, Absent, Memory}

-- a body after its length
abbrev pub frame : Format Bytes
frame = string (uint_in w32 1 2097152)

abbrev pub number_of_kind : RequestKind → ℕ
number_of_kind Update = 1
number_of_kind Commit = 2
number_of_kind Put = 3
number_of_kind Get = 4
number_of_kind Sync = 6

abbrev pub kind_of : ℕ → Option RequestKind
kind_of n =
    if n == 1 then Some Update
    else if n == 2 then Some Commit
    else if n == 3 then Some Put
    else if n == 4 then Some Get
    else if n == 6 then Some Sync
    else None

abbrev pub number_of_status : Status → ℕ
number_of_status Ok = 0
number_of_status Form = 1
number_of_status UnknownUser = 2
number_of_status BadSignature = 3
number_of_status WrongNumber = 4
number_of_status NotPending = 5
number_of_status Busy = 6
number_of_status TooLarge = 7
number_of_status Absent = 8
number_of_status Memory = 9

abbrev pub status_of : ℕ → Option Status
status_of n =
    if n == 0 then Some Ok
    else if n == 1 then Some Form
    else if n == 2 then Some UnknownUser
    else if n == 3 then Some BadSignature
    else if n == 4 then Some WrongNumber
    else if n == 5 then Some NotPending
    else if n == 6 then Some Busy
    else if n == 7 then Some TooLarge
    else if n == 8 then Some Absent
    else if n == 9 then Some Memory
    else None

-- the body of a request
abbrev pub request : RequestKind → Bytes → Bytes
request kind payload = number_of_kind kind ∷ payload

-- the body of a reply
abbrev pub reply_body : Status → Bytes → Bytes
reply_body status payload = number_of_status status ∷ payload

abbrev pub request_of : Bytes → Option (RequestKind × Bytes)
request_of [] = None
request_of (n ∷ payload) = option_map (λ kind. (kind, payload)) (kind_of n)

-- only status 0 has a payload
abbrev pub may_carry : Status → Bytes → Bool
may_carry status payload = (number_of_status status == 0) || (length payload == 0)

abbrev pub reply_of : Bytes → Option (Status × Bytes)
reply_of [] = None
reply_of (n ∷ payload) =
    option_and_then (λ status. if may_carry status payload then Some (status, payload) else None) (status_of n)
