use Rattle.std.proofs.Common.{◌≡◌, ℕ, ◌<◌, ◌≤◌, [], length, slice_index_or}
use Rattle.lms_sign.proofs.Stepped.{AreAll, AreListed, after, takes}
use Rattle.lms_sign.proofs.stepping.step_all.Given as goal

abbrev pub invariant-chains : goal.invariant-chains
invariant-chains l = record {
  few : l.count < 8;
  long : length l.chains ≡ 8;
  order : l.done ≤ l.chain;
  stepped : (c : ℕ) → c < l.done → slice_index_or l.values c [] ≡ after l.id l.leaf l.number l.firsts l.ends l.initial.values c;
  others : (c : ℕ) → l.done ≤ c → slice_index_or l.values c [] ≡ slice_index_or l.initial.values c [];
  listed : AreListed (takes l.number l.firsts l.ends) l.chains l.count l.done l.chain;
  complete : AreAll (takes l.number l.firsts l.ends) l.chains l.count l.done l.chain;
}
