use Rattle.file_session.proofs.Choices.{of_cat, of_details, of_ls, planned_as}
use Rattle.file_session.proofs.conversation.Conversation.tell.Goals as goal

pub returns-in-Ls : goal.returns-in-Ls
returns-in-Ls g c = record { planned = λ user. planned_as _ _ (λ tree. of_ls user _ c.in-Ls.path tree c.in-Ls.is) c.list.ensures.planned }

pub returns-in-Details : goal.returns-in-Details
returns-in-Details g c = record { planned = λ user. planned_as _ _ (λ tree. of_details user _ c.in-Details.path tree c.in-Details.is) c.detail.ensures.planned }

pub returns-in-Cat : goal.returns-in-Cat
returns-in-Cat g c = record { planned = λ user. planned_as _ _ (λ tree. of_cat user _ c.in-Cat.path tree c.in-Cat.is) c.read.ensures.planned }
