-- An exchange more, and how a conversation ends.
use Rattle.std.proofs.Common.{arith, ◌≡◌, ◌≢◌, ◌⊎◌, ◌+◌, ℕ, zero, suc, List, [], ◌∷◌, ◌++◌, Option, Some, None, Result, Ok, Err, refl, sym, ap, ◌∙◌, append_assoc, subst, inl, inr}
use Rattle.std.specs.Prelude.{map, OnOk, IfErr, OnErr, IfSome, IfNone, is_some}
use Rattle.std.specs.List.{All}
use Rattle.std.proofs.lemmas.List.{append-nil}
use Rattle.std.proofs.lemmas.List.Elements.{All-append}
use Rattle.layout.specs.Types.{Bytes, Key}
use Rattle.wire.specs.Frame.{frame, request_of, reply_body}
use Rattle.wire.specs.Stream.{frames_of, IsFrameThen, BeginsFrame, BeginsAtFault}
use Rattle.wire.specs.declared.kinds.RequestKind.{RequestKind}
use Rattle.wire.specs.declared.kinds.RequestKind.TheVariants.{Update, Commit, Put, Get, Sync}
use Rattle.consistency_server.specs.Answers.{Answer, Call}
use Rattle.consistency_server.specs.History.{update_of, commit_of, log_of}
use Rattle.server_workers.specs.declared.ended.Ended.{Ended}
use Rattle.server_workers.specs.declared.ended.Ended.TheVariants as ended
use Rattle.connection.specs.Told.{Told, goes_on}
use Rattle.server_workers.specs.Conversation.{Server, MoreSynced, IsLater, Exchange, IsExchange, RepliesToCallOf, RepliesToGetOf, RepliesToSync, RepliesToBody, count_in, requests, replies, counted, EndsWith, Conversed}
use Rattle.server_workers.specs.Conversing.{Standing, Conversing, Steps, GoesOn, WasReplied, HadStopped}

-- ---- what a connection tells

told_none : (o : Option Told) → o ≡ goes_on [] [] o
told_none None = refl
told_none (Some t) = ap (λ r. Some (record { read = r; written = t.written })) (sym (append-nil t.read)) ∙ ap (λ w. Some (record { read = t.read ++ []; written = w })) (sym (append-nil t.written))

pub told_both : (o : Option Told) (r s w v : Bytes) → goes_on s v (goes_on r w o) ≡ goes_on (r ++ s) (w ++ v) o
told_both None r s w v = refl
told_both (Some t) r s w v = ap (λ x. Some (record { read = x; written = (t.written ++ w) ++ v })) (append_assoc t.read r s) ∙ ap (λ x. Some (record { read = t.read ++ (r ++ s); written = x })) (append_assoc t.written w v)

-- from the start, in two steps
two_steps : (start now now' : Option Told) (r s w v x y : Bytes) → now ≡ goes_on r w start → now' ≡ goes_on s v now → r ++ s ≡ x → w ++ v ≡ y → now' ≡ goes_on x y start
two_steps start now now' r s w v x y one two reads writes =
    two ∙ ap (goes_on s v) one ∙ told_both start r s w v ∙ ap (λ l. goes_on l (w ++ v) start) reads ∙ ap (λ l. goes_on x l start) writes

-- ---- an exchange more

frames_snoc : (bodies : List Bytes) (body : Bytes) → frames_of (bodies ++ body ∷ []) ≡ frames_of bodies ++ frame.spell body
frames_snoc [] body = append-nil (frame.spell body)
frames_snoc (b ∷ bs) body = ap (λ l. frame.spell b ++ l) (frames_snoc bs body) ∙ sym (append_assoc (frame.spell b) (frames_of bs) (frame.spell body))

map_snoc : (f : Exchange → Bytes) (es : List Exchange) (e : Exchange) → map f (es ++ e ∷ []) ≡ map f es ++ f e ∷ []
map_snoc f [] e = refl
map_snoc f (x ∷ xs) e = ap (λ l. f x ∷ l) (map_snoc f xs e)

requests_snoc : (es : List Exchange) (e : Exchange) → requests (es ++ e ∷ []) ≡ requests es ++ frame.spell e.request
requests_snoc es e = ap frames_of (map_snoc (λ x. x.request) es e) ∙ frames_snoc (map (λ x. x.request) es) e.request

abbrev body_of : Exchange → Bytes
body_of e = reply_body e.reply.status e.reply.payload

replies_snoc : (es : List Exchange) (e : Exchange) → replies (es ++ e ∷ []) ≡ replies es ++ frame.spell (body_of e)
replies_snoc es e = ap frames_of (map_snoc body_of es e) ∙ frames_snoc (map body_of es) (body_of e)

counted_snoc : (es : List Exchange) (e : Exchange) → counted (es ++ e ∷ []) ≡ counted es + count_in (request_of e.request) e.reply.status
unfolding counted
counted_snoc [] e = omega arith
counted_snoc (x ∷ xs) e = let h = counted_snoc xs e in omega (arith, h)

all_one : (P : Exchange → Type 0) (e : Exchange) → P e → All P (e ∷ [])
all_one P e one zero d few = one
all_one P e one (suc k) d few = absurd (omega (arith, few))

all_snoc : (P : Exchange → Type 0) (es : List Exchange) (e : Exchange) → All P es → P e → All P (es ++ e ∷ [])
all_snoc P es e all one = All-append P es (e ∷ []) all (all_one P e one)

-- ---- steps

abbrev standing : Option Told → ℕ → Bytes → Standing
standing told answered waiting = record { told = told; answered = answered; waiting = waiting }

-- before the first byte
pub starts : (server : Server) (told : Option Told) (answered : ℕ) (waiting : Bytes) → waiting ≡ [] → Conversing server (standing told answered []) (standing told answered waiting)
unfolding counted
starts server told answered waiting none = record { exchanges = []; allowed = λ k d few. absurd (omega (arith, few)); told = told_none told ∙ ap (λ l. goes_on l [] told) (sym none); counts = omega arith }

-- the reply to the next frame
abbrev pub IsReplied : Server → Bytes → Answer → Type 0
IsReplied server request reply = RepliesToBody server (request_of request) reply

broken_ends : (e : Ended) (left unwritten : Bytes) → (e ≡ ended.Fault) ⊎ (e ≡ ended.Memory) → EndsWith e left unwritten
broken_ends ended.End left unwritten kind = absurd (elim kind [ inl k ↦ cc | inr k ↦ cc ])
broken_ends ended.Length left unwritten kind = absurd (elim kind [ inl k ↦ cc | inr k ↦ cc ])
broken_ends ended.Fault left unwritten kind = tt
broken_ends ended.Memory left unwritten kind = tt
broken_ends ended.Stopped left unwritten kind = absurd (elim kind [ inl k ↦ cc | inr k ↦ cc ])

pub replied : (server : Server) (told told' : Option Told) (answered answered' : ℕ) (waiting rest request : Bytes) (reply : Answer) {X : Type 0} (result : Result X Ended)
    → IsFrameThen request rest waiting → IsReplied server request reply → answered' ≡ answered + count_in (request_of request) reply.status
    → OnOk result (told' ≡ goes_on [] (frame.spell (reply_body reply.status reply.payload)) told)
    → IfErr result (λ _. (part after : Bytes) × (told' ≡ goes_on [] part told) × (frame.spell (reply_body reply.status reply.payload) ≡ part ++ after))
    → IfErr result (λ e. (e ≡ ended.Fault) ⊎ (e ≡ ended.Memory))
    → GoesOn server server (standing told answered waiting) result (standing told' answered' rest)
replied server told told' answered answered' waiting rest request reply (Ok x) next allowed counts wrote broke kind start so =
    let e : Exchange = record { request = request; reply = reply } in
    record {
      exchanges = so.exchanges ++ e ∷ [];
      allowed = all_snoc (IsExchange server) so.exchanges e so.allowed (record { fits = next.0; replies = allowed });
      told = two_steps start.told told told' (requests so.exchanges ++ waiting) [] (replies so.exchanges) (frame.spell (body_of e)) _ _ so.told wrote
          (append-nil (requests so.exchanges ++ waiting) ∙ ap (λ l. requests so.exchanges ++ l) next.1 ∙ sym (append_assoc (requests so.exchanges) (frame.spell request) rest) ∙ ap (λ l. l ++ rest) (sym (requests_snoc so.exchanges e)))
          (sym (replies_snoc so.exchanges e));
      counts = let h = counted_snoc so.exchanges e in let c = so.counts in omega (arith, h, c, counts);
    }
replied server told told' answered answered' waiting rest request reply (Err broken) next allowed counts wrote (part, after, wrote_part, cut) kind start so =
    let e : Exchange = record { request = request; reply = reply } in
    record {
      exchanges = so.exchanges ++ e ∷ [];
      left = rest;
      written = replies so.exchanges ++ part;
      unwritten = after;
      allowed = all_snoc (IsExchange server) so.exchanges e so.allowed (record { fits = next.0; replies = allowed });
      told = two_steps start.told told told' (requests so.exchanges ++ waiting) [] (replies so.exchanges) part _ _ so.told wrote_part
          (append-nil (requests so.exchanges ++ waiting) ∙ ap (λ l. requests so.exchanges ++ l) next.1 ∙ sym (append_assoc (requests so.exchanges) (frame.spell request) rest) ∙ ap (λ l. l ++ rest) (sym (requests_snoc so.exchanges e)))
          refl;
      in_order = replies_snoc so.exchanges e ∙ ap (λ l. replies so.exchanges ++ l) cut ∙ sym (append_assoc (replies so.exchanges) part after);
      whole = broken_ends broken rest after kind;
      counts = let h = counted_snoc so.exchanges e in let c = so.counts in omega (arith, h, c, counts);
    }

-- or the server had stopped
pub had_stopped : (server : Server) (told told' : Option Told) (answered answered' : ℕ) (waiting rest request : Bytes) {X : Type 0} (result : Result X Ended)
    → IsFrameThen request rest waiting → HadStopped server told told' answered answered' result
    → GoesOn server server (standing told answered waiting) result (standing told' answered' rest)
had_stopped server told told' answered answered' waiting rest request result next h start so =
    let ended_so : Conversed server start.told told' start.answered answered' ended.Stopped = record {
      exchanges = so.exchanges;
      left = waiting;
      written = replies so.exchanges;
      unwritten = [];
      allowed = so.allowed;
      told = h.told_same ∙ so.told;
      in_order = sym (append-nil (replies so.exchanges));
      whole = (refl, (request, rest, next));
      counts = h.counts ∙ so.counts;
    } in
    subst (λ r. Steps server start r (standing told' answered' rest)) (sym h.stopped) ended_so

-- one or the other
pub replied_or_stopped : (server : Server) (told told' : Option Told) (answered answered' : ℕ) (waiting rest request : Bytes) {X : Type 0} (result : Result X Ended)
    → IsFrameThen request rest waiting
    → WasReplied server request told told' answered answered' result ⊎ HadStopped server told told' answered answered' result
    → GoesOn server server (standing told answered waiting) result (standing told' answered' rest)
replied_or_stopped server told told' answered answered' waiting rest request result next (inl r) =
    replied server told told' answered answered' waiting rest request r.reply result next r.allowed r.counts r.whole r.part r.broken
replied_or_stopped server told told' answered answered' waiting rest request result next (inr h) =
    had_stopped server told told' answered answered' waiting rest request result next h

-- what is read is after what waits
read_after : (es : List Exchange) (waiting piece : Bytes) → (requests es ++ waiting) ++ piece ≡ requests es ++ (waiting ++ piece)
read_after es waiting piece = append_assoc (requests es) waiting piece

at_end : (e : Ended) (waiting piece : Bytes) → (e ≡ ended.End → piece ≡ []) → (e ≢ ended.Length) × (e ≢ ended.Stopped) → (¬ BeginsFrame waiting) × (¬ BeginsAtFault waiting) → EndsWith e (waiting ++ piece) []
at_end ended.End waiting piece none other all =
    let is : waiting ≡ waiting ++ piece = sym (append-nil waiting) ∙ ap (λ l. waiting ++ l) (sym (none refl)) in
    (refl, subst (λ l. ¬ BeginsFrame l) is all.0, subst (λ l. ¬ BeginsAtFault l) is all.1)
at_end ended.Length waiting piece none other all = absurd (other.0 refl)
at_end ended.Fault waiting piece none other all = tt
at_end ended.Memory waiting piece none other all = tt
at_end ended.Stopped waiting piece none other all = absurd (other.1 refl)

-- the next frame isn't whole: more is read
pub reads : (server : Server) (told told' : Option Told) (answered : ℕ) (waiting waiting' : Bytes) {X : Type 0} (result : Result X Ended)
    → OnOk result ((piece : Bytes) × (told' ≡ goes_on piece [] told) × (waiting' ≡ waiting ++ piece))
    → OnErr result ((piece : Bytes) × (told' ≡ goes_on piece [] told) × (result ≡ Err ended.End → piece ≡ []))
    → IfErr result (λ e. (e ≢ ended.Length) × (e ≢ ended.Stopped))
    → (¬ BeginsFrame waiting) × (¬ BeginsAtFault waiting)
    → GoesOn server server (standing told answered waiting) result (standing told' answered waiting')
reads server told told' answered waiting waiting' (Ok x) (piece, read, more) broke kind all start so = record {
  exchanges = so.exchanges;
  allowed = so.allowed;
  told = two_steps start.told told told' (requests so.exchanges ++ waiting) piece (replies so.exchanges) [] _ _ so.told read
      (read_after so.exchanges waiting piece ∙ ap (λ l. requests so.exchanges ++ l) (sym more)) (append-nil (replies so.exchanges));
  counts = so.counts;
}
reads server told told' answered waiting waiting' (Err e) ok (piece, read, none) kind all start so = record {
  exchanges = so.exchanges;
  left = waiting ++ piece;
  written = replies so.exchanges;
  unwritten = [];
  allowed = so.allowed;
  told = two_steps start.told told told' (requests so.exchanges ++ waiting) piece (replies so.exchanges) [] _ _ so.told read
      (read_after so.exchanges waiting piece) (append-nil (replies so.exchanges));
  in_order = sym (append-nil (replies so.exchanges));
  whole = at_end e waiting piece (λ is. none (ap (λ f. Err f) is)) kind all;
  counts = so.counts;
}

-- where it was tried in vain to take a frame, which left what waits as it was
pub reads_on : (server : Server) (told told' : Option Told) (answered : ℕ) (was waiting waiting' : Bytes) {X : Type 0} (result : Result X Ended)
    → waiting ≡ was
    → OnOk result ((piece : Bytes) × (told' ≡ goes_on piece [] told) × (waiting' ≡ waiting ++ piece))
    → OnErr result ((piece : Bytes) × (told' ≡ goes_on piece [] told) × (result ≡ Err ended.End → piece ≡ []))
    → IfErr result (λ e. (e ≢ ended.Length) × (e ≢ ended.Stopped))
    → (¬ BeginsFrame was) × (¬ BeginsAtFault was)
    → GoesOn server server (standing told answered was) result (standing told' answered waiting')
reads_on server told told' answered was waiting waiting' result same ok broke kind all =
    subst (λ w. GoesOn server server (standing told answered w) result (standing told' answered waiting')) same
    (reads server told told' answered waiting waiting' result ok broke kind (subst (λ w. (¬ BeginsFrame w) × (¬ BeginsAtFault w)) (sym same) all))

pub some_holds : {X : Type 0} (P : X → Type 0) (o : Option X) (x : X) → o ≡ Some x → IfSome o P → P x
some_holds {X} P o x is holds = subst (λ (o : Option X). IfSome o P) is holds

pub none_holds : {X : Type 0} (P : Type 0) (o : Option X) → o ≡ None → IfNone o P → P
none_holds {X} P o is holds = subst (λ (o : Option X). IfNone o P) is holds

-- it ends where it stands
pub stops : (server : Server) (told : Option Told) (answered : ℕ) (waiting : Bytes) (e : Ended) (X : Type 0) → EndsWith e waiting [] → GoesOn server server (standing told answered waiting) {X = X} (Err e) (standing told answered waiting)
stops server told answered waiting e X whole start so = record {
  exchanges = so.exchanges;
  left = waiting;
  written = replies so.exchanges;
  unwritten = [];
  allowed = so.allowed;
  told = so.told;
  in_order = sym (append-nil (replies so.exchanges));
  whole = whole;
  counts = so.counts;
}

-- ---- the same server, later

no_later : (o : Option (List Call)) → MoreSynced o o
no_later None = tt
no_later (Some calls) = ([], append-nil calls)

pub not_later : (server : Server) → IsLater server server
not_later server = record { pinned = refl; synced = no_later server.synced }

both_later : (a b c : Option (List Call)) → MoreSynced a b → MoreSynced b c → MoreSynced a c
both_later None None None first then = tt
both_later (Some x) (Some y) (Some z) first then = (first.0 ++ then.0, sym (append_assoc x first.0 then.0) ∙ ap (λ (l : List Call). l ++ then.0) first.1 ∙ then.1)
both_later None None (Some z) first then = absurd then
both_later None (Some y) c first then = absurd first
both_later (Some x) None c first then = absurd first
both_later (Some x) (Some y) None first then = absurd then

pub later_twice : (a b c : Server) → IsLater a b → IsLater b c → IsLater a c
later_twice a b c first then = record { pinned = then.pinned ∙ first.pinned; synced = both_later a.synced b.synced c.synced first.synced then.synced }

-- what it might reply it may reply later
call_later : (p : Key) (o n : Option (List Call)) → MoreSynced o n → (call : Call) (reply : Answer) → RepliesToCallOf (record { pinned = p; synced = o }) call reply → RepliesToCallOf (record { pinned = p; synced = n }) call reply
call_later p None None more call reply r = r
call_later p None (Some later) more call reply r = absurd more
call_later p (Some calls) None more call reply r = absurd more
call_later p (Some calls) (Some later) more call reply (inl memory) = inl memory
call_later p (Some calls) (Some later) more call reply (inr t) = inr (record {
  history = t.history;
  answers = t.answers;
  kept = (t.kept.0 ++ more.0, sym (append_assoc (log_of p (call ∷ t.history)) t.kept.0 more.0) ∙ ap (λ (l : List Call). l ++ more.0) t.kept.1 ∙ more.1);
})

sync_later : (o n : Option (List Call)) → MoreSynced o n → (payload : Bytes) (reply : Answer) → RepliesToSync (is_some o) payload reply → RepliesToSync (is_some n) payload reply
sync_later None None more payload reply r = r
sync_later (Some calls) (Some later) more payload reply r = r
sync_later None (Some later) more payload reply r = absurd more
sync_later (Some calls) None more payload reply r = absurd more

get_later : (o n : Option (List Call)) → MoreSynced o n → (payload : Bytes) (reply : Answer) → RepliesToGetOf (is_some o) payload reply → RepliesToGetOf (is_some n) payload reply
get_later None None more payload reply r = r
get_later (Some calls) (Some later) more payload reply r = r
get_later None (Some later) more payload reply r = absurd more
get_later (Some calls) None more payload reply r = absurd more

replies_later : (a : Server) (n : Option (List Call)) → MoreSynced a.synced n → (request : Option (RequestKind × Bytes)) (reply : Answer) → RepliesToBody a request reply → RepliesToBody (record { pinned = a.pinned; synced = n }) request reply
replies_later a n more None reply r = r
replies_later a n more (Some (Update, text)) reply r = call_later a.pinned a.synced n more (update_of text) reply r
replies_later a n more (Some (Commit, text)) reply r = call_later a.pinned a.synced n more (commit_of text) reply r
replies_later a n more (Some (Put, block)) reply r = r
replies_later a n more (Some (Get, digest)) reply r = get_later a.synced n more digest reply r
replies_later a n more (Some (Sync, payload)) reply r = sync_later a.synced n more payload reply r

exchange_later : (a b : Server) → IsLater a b → (e : Exchange) → IsExchange a e → IsExchange b e
exchange_later a b later e x = record {
  fits = x.fits;
  replies = subst (λ (p : Key). RepliesToBody (record { pinned = p; synced = b.synced }) (request_of e.request) e.reply) (sym later.pinned) (replies_later a b.synced later.synced (request_of e.request) e.reply x.replies);
}

pub conversing_later : (a b : Server) → IsLater a b → (start now : Standing) → Conversing a start now → Conversing b start now
conversing_later a b later start now c = record {
  exchanges = c.exchanges;
  allowed = λ k d few. exchange_later a b later _ (c.allowed k d few);
  told = c.told;
  counts = c.counts;
}

pub goes_on_later : (a b : Server) → IsLater a b → (before : Standing) {X : Type 0} (result : Result X Ended) (now : Standing) → GoesOn b b before result now → GoesOn a b before result now
goes_on_later a b later before result now goes start so = goes start (conversing_later a b later start before so)

-- ---- what a step found

pub went_on : (server : Server) (start now : Standing) {X : Type 0} (r : Result X Ended) (x : X) → r ≡ Ok x → Steps server start r now → Conversing server start now
went_on server start now r x is steps = subst (λ o. Steps server start o now) is steps

pub ended_as : (server : Server) (start now : Standing) {X : Type 0} (r : Result X Ended) (e : Ended) → r ≡ Err e → Steps server start r now → Conversed server start.told now.told start.answered now.answered e
ended_as server start now r e is steps = subst (λ o. Steps server start o now) is steps

-- nothing was read
pub never_begun : (server : Server) (told : Option Told) (answered : ℕ) → Conversed server told told answered answered ended.Memory
never_begun server told answered = stops server told answered [] ended.Memory (Unit {0}) tt (standing told answered []) (starts server told answered [] refl)
