-- The texts of a run that are blocks: laid out, handed in, or to be stored. Digests of them are taken.
use Rattle.std.proofs.Common.{List, [], ◌∷◌, ◌++◌, Ok, Err, inl, inr, option_to_list}
use Rattle.std.specs.List.{flat_map}
use Rattle.std.specs.Option.{option_map_or}
use Rattle.layout.specs.Types.{Bytes}
use Rattle.reply_check.specs.FirstBroken.{reply_in}
use Rattle.client_steps.specs.Steps.{Begins, Caches, Call, Closes, Commits, Crashes, Gains, Gives, Hears, Looks, Opens, Resigns, Signs, Takes}
use Rattle.client_runs.specs.Released.{hashed_at, hashed_by, reply_texts, stored_texts, unless_memory}
use Rattle.client_runs.specs.Runs.{Event}
use Rattle.agreement.proofs.Members.{In, in-append, in-left, in-right}

-- the blocks of a call
abbrev pub blocks_by : Call → List Bytes
blocks_by (Begins changes laid answer) = unless_memory answer laid
blocks_by (Hears text answer) = stored_texts answer
blocks_by (Takes block answer) = unless_memory answer (option_to_list block ++ stored_texts answer)
blocks_by (Gives block answer) = unless_memory answer (option_to_list block)
blocks_by call = []

abbrev pub blocks_at : Event → List Bytes
blocks_at e = blocks_by e.call

by_hashed : (call : Call) (t : Bytes) → In t (blocks_by call) → In t (hashed_by call)
by_hashed (Begins changes laid answer) t i = i
by_hashed (Hears text (Ok step)) t i = in-right t (option_map_or reply_texts (reply_in text) []) (stored_texts (Ok step)) i
by_hashed (Hears text (Err e)) t i = absurd i
by_hashed (Takes block answer) t i = i
by_hashed (Gives block answer) t i = i
by_hashed (Opens answer) t i = absurd i
by_hashed Closes t i = absurd i
by_hashed Gains t i = absurd i
by_hashed Crashes t i = absurd i
by_hashed (Resigns n answer) t i = absurd i
by_hashed (Signs answer) t i = absurd i
by_hashed (Commits status) t i = absurd i
by_hashed (Looks q answer) t i = absurd i
by_hashed (Caches capacity) t i = absurd i

pub are_hashed : (run : List Event) (t : Bytes) → In t (flat_map blocks_at run) → In t (flat_map hashed_at run)
are_hashed [] t i = absurd i
are_hashed (e ∷ older) t i =
    elim (in-append t (blocks_at e) (flat_map blocks_at older) i) [
      | inl here ↦ in-left t (hashed_at e) (flat_map hashed_at older) (in-left t (hashed_by e.call) _ (by_hashed e.call t here))
      | inr later ↦ in-right t (hashed_at e) (flat_map hashed_at older) (are_hashed older t later)
    ]
