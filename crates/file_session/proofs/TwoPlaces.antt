-- The places of two paths, from what looks told.
use Rattle.std.proofs.Common.{◌≡◌, Option, Some, None, refl, sym, ap, ◌∙◌}
use Rattle.std.specs.Option.{option_map, option_map_or}
use Rattle.layout.specs.Types.{Bytes, User}
use Rattle.update_cert.specs.World.{Tree}
use Rattle.commands.specs.Asked.{Outcome, Place, at_both, at_other, refuses}
use Rattle.commands.specs.Paths.{Path}
use Rattle.commands.specs.declared.answer.Refusal.TheVariants as refusal
use Rattle.file_session.specs.declared.renaming.Sites.{Sites}
use Rattle.file_session.specs.declared.site.Site.{Site}
use Rattle.file_session.specs.Parts.{of_sites, place_at, place_of_site}
use Rattle.file_session.proofs.Walks.{at_a_place, at_no_place}

-- the first one isn't found
pub no_site : (user : User) (tree : Tree) (comes : Place → Place → Outcome) (o to : Option Path) (name other : Bytes) (found : Option Site) → ((s : Site) → found ≡ Some s → ⊥) → option_map (place_of_site name) found ≡ place_at tree o
    → at_both user tree comes o to ≡ of_sites comes name other None
no_site user tree comes o to name other found not is = at_no_place user tree (λ place _. at_other tree comes to place) o name found not is

abbrev by_place : (Place → Place → Outcome) → Place → Option Place → Outcome
by_place comes here o = option_map_or (λ x. comes here x) o (refuses refusal.NoPath)

-- the first one is found, and the other one isn't
pub no_other_site : (user : User) (tree : Tree) (comes : Place → Place → Outcome) (o to : Option Path) (name other : Bytes) (found new : Option Site) (s : Site) → found ≡ Some s → option_map (place_of_site name) found ≡ place_at tree o
    → ((n : Site) → new ≡ Some n → ⊥) → option_map (place_of_site other) new ≡ place_at tree to
    → at_both user tree comes o to ≡ of_sites comes name other None
no_other_site user tree comes o to name other found new s some is not new_is =
    at_a_place user tree (λ place _. at_other tree comes to place) o name found s some is ∙ go to new not new_is
  where
    go : (p : Option Path) (n : Option Site) → ((x : Site) → n ≡ Some x → ⊥) → option_map (place_of_site other) n ≡ place_at tree p → at_other tree comes p (place_of_site name s) ≡ refuses refusal.NoPath
    go None n not is = refl
    go (Some path) None not is = ap (by_place comes (place_of_site name s)) (sym is)
    go (Some path) (Some x) not is = absurd (not x refl)

pub both_sites : (user : User) (tree : Tree) (comes : Place → Place → Outcome) (o to : Option Path) (name other : Bytes) (found new : Option Site) (s n : Site) (r : Sites) → found ≡ Some s → option_map (place_of_site name) found ≡ place_at tree o
    → new ≡ Some n → option_map (place_of_site other) new ≡ place_at tree to → r ≡ record { site = s; other = n }
    → at_both user tree comes o to ≡ of_sites comes name other (Some r)
both_sites user tree comes o to name other found new s n r some is new_some new_is r_is =
    at_a_place user tree (λ place _. at_other tree comes to place) o name found s some is ∙ go to new_is
    ∙ ap (λ (x : Sites). of_sites comes name other (Some x)) (sym r_is)
  where
    go : (p : Option Path) → option_map (place_of_site other) new ≡ place_at tree p → at_other tree comes p (place_of_site name s) ≡ comes (place_of_site name s) (place_of_site other n)
    go None is = absurd (let none : None ≡ Some (place_of_site other n) = sym is ∙ ap (option_map (place_of_site other)) new_some in cc none)
    go (Some path) is = ap (by_place comes (place_of_site name s)) (sym is ∙ ap (option_map (place_of_site other)) new_some)

-- what comes by them
pub by_sites : (user : User) (tree : Tree) (comes : Place → Place → Outcome) (o to : Option Path) (name other : Bytes) (found : Option Sites) (s : Sites) → found ≡ Some s
    → ((u : User) (f : Place → Place → Outcome) → at_both u tree f o to ≡ of_sites f name other found) → at_both user tree comes o to ≡ of_sites comes name other (Some s)
by_sites user tree comes o to name other found s some is = is user comes ∙ ap (of_sites comes name other) some

pub by_no_sites : (user : User) (tree : Tree) (comes : Place → Place → Outcome) (o to : Option Path) (name other : Bytes) (found : Option Sites) → ((s : Sites) → found ≡ Some s → ⊥)
    → ((u : User) (f : Place → Place → Outcome) → at_both u tree f o to ≡ of_sites f name other found) → at_both user tree comes o to ≡ refuses refusal.NoPath
by_no_sites user tree comes o to name other None not is = is user comes
by_no_sites user tree comes o to name other (Some s) not is = absurd (not s refl)
