-- Nobody has to believe this file: laws, which are proved.
-- Frames, requests and replies: what is read is spelled so, and what is spelled so is read.
use Rattle.std.specs.Prelude.{◌≡◌, ℕ, true, List, Some, refl}
use Rattle.layout.specs.Laws.{laws}
use Rattle.layout.specs.Format.{Lawful}
use Rattle.wire.specs.declared.kinds.RequestKind.{RequestKind}
use Rattle.wire.specs.declared.kinds.RequestKind.TheVariants.{Update, Commit, Put, Get, Sync}
use Rattle.wire.specs.declared.kinds.Status.{Status}
use Rattle.wire.specs.declared.kinds.Status.TheVariants.{Ok, Form, UnknownUser, BadSignature, WrongNumber, NotPending, Busy, TooLarge, Absent, Memory}
use Rattle.wire.specs.Frame.{frame, number_of_status, status_of, request, reply_body, request_of, may_carry, reply_of}

pub lawful_frame : Lawful frame
lawful_frame = search laws

-- what was written is read
pub request_again : (kind : RequestKind) (payload : List ℕ) → request_of (request kind payload) ≡ Some (kind, payload)
request_again Update payload = refl
request_again Commit payload = refl
request_again Put payload = refl
request_again Get payload = refl
request_again Sync payload = refl

pub status_again : (status : Status) → status_of (number_of_status status) ≡ Some status
status_again Ok = refl
status_again Form = refl
status_again UnknownUser = refl
status_again BadSignature = refl
status_again WrongNumber = refl
status_again NotPending = refl
status_again Busy = refl
status_again TooLarge = refl
status_again Absent = refl
status_again Memory = refl

pub reply_again : (status : Status) (payload : List ℕ) → may_carry status payload ≡ true → reply_of (reply_body status payload) ≡ Some (status, payload)
reply_again status payload may = rw (status_again status, may) refl
