-- What happens in a run: the texts that clients release, the views that they accept, the texts that are shown to them
-- with signatures, and those of which digests are taken.
use Rattle.std.specs.Prelude.{List, [], ◌∷◌, ◌++◌, Option, None, Result, Ok, Err, ◌==◌, if◌then◌else◌, map}
use Rattle.std.specs.List.{flat_map}
use Rattle.std.specs.Option.{option_map, option_map_or, option_to_list}
use Rattle.std.specs.Vec.{vec_items}
use Rattle.layout.specs.Types.{Bytes, User}
use Rattle.version_order.specs.Plan.{plan}
use Rattle.version_order.specs.Structure.{Structure, structure}
use Rattle.update_cert.specs.Cert.{cert}
use Rattle.pending_list.specs.declared.signed.Signed.{Signed}
use Rattle.pending_list.specs.Reply.{PendingItem, Reply}
use Rattle.client_tree.specs.Genesis.{first_texts}
use Rattle.client_journal.specs.Records.{unsigned}
use Rattle.client_releases.specs.declared.error.ClientError.{ClientError}
use Rattle.client_releases.specs.declared.error.ClientError.TheVariants as error
use Rattle.client_releases.specs.declared.phase.Phase.{Phase}
use Rattle.client_releases.specs.declared.phase.Phase.TheVariants as phase
use Rattle.client_verify.specs.declared.step.Step.TheVariants as step
use Rattle.reply_check.specs.FirstBroken.{reply_in}
use Rattle.agreement.specs.Runs.{View}
use Rattle.release_runs.specs.Released.{found_text}
use Rattle.client_verify.specs.State.{Ready, State, next_structure}
use Rattle.client_steps.specs.Steps.{Asks, Call, Opens, Begins, Resigns, Hears, Takes, Signs, Gives, Client, Closed, Open}
use Rattle.client_runs.specs.Runs.{Event, Keys, client_of, pinned}

-- ---- released texts

-- the text that an opened client finds in its journal, if it finds one
abbrev pub found_by : Client → List Bytes
found_by (Closed p) = []
found_by (Open s) = found_text s.text

-- what a call releases: `begin`, `resign` and `sign` the text that they give, `open` the one that it finds
abbrev pub released_by : Call → Client → List Bytes
released_by (Opens (Ok x)) after = found_by after
released_by (Begins changes laid (Ok text)) after = text ∷ []
released_by (Resigns n (Ok text)) after = text ∷ []
released_by (Signs (Ok text)) after = text ∷ []
released_by call after = []

-- the texts that a user's client released, the latest first
abbrev pub released : User → List Event → List Bytes
released u [] = []
released u (e ∷ older) = if e.user == u then released_by e.call e.after ++ released u older else released u older

-- ---- accepted views

-- the view of an accepted reply, with the structure that is signed over it
abbrev pub view_over : State → Ready → View
view_over s r = record { lists = r.lists; table = r.table; signed = next_structure s r }

-- the view over which a client would sign now
abbrev pub in_hand : Client → Option View
in_hand (Closed p) = None
in_hand (Open s) = option_map (view_over s) s.accepted

-- What a call makes of it: `sign` whose device failed has tried, and a client that is opened finds what came of that.
abbrev pub tried_by : Call → Client → Option View → Option View
tried_by (Signs (Err error.Device)) before tried = in_hand before
tried_by (Opens (Ok x)) before tried = None
tried_by call before tried = tried

-- the view over which a user's client tried to sign before its device failed, if it wasn't opened since
abbrev pub tried_view : User → List Event → Option View
tried_view u [] = None
tried_view u (e ∷ older) = if e.user == u then tried_by e.call (client_of u older) (tried_view u older)
    else tried_view u older

-- a client that found a structure in its journal
abbrev pub where_signed : Phase → Option View → List View
where_signed phase.Signed tried = option_to_list tried
where_signed other tried = []

abbrev pub where_found : Client → Option View → List View
where_found (Closed p) tried = []
where_found (Open s) tried = where_signed s.phase tried

-- The view that a call accepts: `sign` the one in hand; and `open` the one over which a structure was tried, where it
-- finds that structure.
abbrev pub accepted_by : Call → Client → Client → Option View → List View
accepted_by (Signs (Ok text)) before after tried = option_to_list (in_hand before)
accepted_by (Opens (Ok x)) before after tried = where_found after tried
accepted_by call before after tried = []

-- the accepted views of all clients, the latest first
abbrev pub views : List Event → List View
views [] = []
views (e ∷ older) = accepted_by e.call (client_of e.user older) e.after (tried_view e.user older) ++ views older

-- ---- steps that memory refused

-- what was refused for want of memory counts nowhere: such a step is one that wasn't taken
abbrev pub unless_memory : {A B : Type 0} → Result A ClientError → List B → List B
unless_memory (Err error.Memory) texts = []
unless_memory answer texts = texts

-- ---- texts that are shown with a signature

pub record Shown : Type 0 where
  pub user : User
  pub text : Bytes
  pub signature : Bytes

abbrev pub shown_structure : Signed Structure → Shown
shown_structure z = record { user = z.value.plan.user; text = structure.spell z.value; signature = z.signature }

abbrev pub shown_cert : PendingItem → Shown
shown_cert i = record { user = i.cert.user; text = cert.spell i.cert; signature = i.signature }

abbrev pub shown_in : Reply → List Shown
shown_in r = map shown_structure r.structures ++ map shown_cert r.pending

-- those of the reply that a call is handed, if it is one
abbrev pub shown_by : Call → List Shown
shown_by (Hears text answer) = unless_memory answer (option_map_or shown_in (reply_in text) [])
shown_by call = []

-- ---- texts of which digests are taken

abbrev pub structure_texts : Signed Structure → List Bytes
structure_texts z = structure.spell z.value ∷ plan.spell z.value.plan ∷ []

abbrev pub pending_texts : PendingItem → List Bytes
pending_texts i = cert.spell i.cert ∷ plan.spell i.plan ∷ []

abbrev pub reply_texts : Reply → List Bytes
reply_texts r = flat_map structure_texts r.structures ++ flat_map pending_texts r.pending

-- the texts that are to be stored
abbrev pub stored_texts : Result Asks ClientError → List Bytes
stored_texts (Ok (step.Store texts)) = map vec_items texts.items
stored_texts answer = []

-- certificates, plans and structures of replies, blocks that were laid out, handed in or are to be stored
abbrev pub hashed_by : Call → List Bytes
hashed_by (Begins changes laid answer) = unless_memory answer laid
hashed_by (Hears text answer) = unless_memory answer (option_map_or reply_texts (reply_in text) [] ++ stored_texts answer)
hashed_by (Takes block answer) = unless_memory answer (option_to_list block ++ stored_texts answer)
hashed_by (Gives block answer) = unless_memory answer (option_to_list block)
hashed_by call = []

-- and released texts, without their signatures
abbrev pub hashed_at : Event → List Bytes
hashed_at e = hashed_by e.call ++ map unsigned (released_by e.call e.after)

-- those of the beginning, too
abbrev pub hashed : Keys → List Event → List Bytes
hashed keys run = flat_map hashed_at run ++ first_texts (pinned keys)
