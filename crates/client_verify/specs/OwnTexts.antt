-- Nobody has to believe this file: an aid of an invariant.
-- What one of a client's keys signed.
use Rattle.lms_sign.specs.Keys.{public_key_of}
use Rattle.std.specs.Prelude.{ℕ}
use Rattle.client_releases.specs.Told.{HasKey, Released, secret_at}
use Rattle.reply_check.specs.Verified.{AreOwn}

-- the key of this number is there, and signed the last structure and the last text
pub record SignedBoth (n : ℕ) (r : Released) : Type 0 where
  pub has : HasKey n r
  pub own : AreOwn (public_key_of (secret_at n r)) r.last r.text
