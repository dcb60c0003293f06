-- Nobody has to believe this file: an aid of private contracts.
-- That what a place or a course is named by is a name, and that a course puts nothing in the place of a file.
use Rattle.std.specs.Prelude.{◌≡◌, true}
use Rattle.directory.specs.Name.{is_name}
use Rattle.commands.specs.declared.place.Course.{Course}
use Rattle.commands.specs.declared.place.Course.TheVariants as course
use Rattle.commands.specs.declared.place.Place.{Place}
use Rattle.commands.specs.declared.place.Place.TheVariants as place

abbrev pub IsNamed : Place → Type 0
IsNamed (place.At t there) = Unit {0}
IsNamed (place.New directory name) = is_name name.now ≡ true
IsNamed (place.Old directory name t there) = is_name name.now ≡ true

abbrev pub IsNamedCourse : Course → Type 0
IsNamedCourse (course.MakeNamed directory name i) = is_name name.now ≡ true
IsNamedCourse (course.Unlink directory name) = is_name name.now ≡ true
IsNamedCourse (course.UnlinkAndRemove directory name t) = is_name name.now ≡ true
IsNamedCourse (course.Link directory name t) = is_name name.now ≡ true
IsNamedCourse (course.LinkAndUnlink to to_name t directory name) =
    (is_name to_name.now ≡ true) × (is_name name.now ≡ true)
IsNamedCourse other = Unit {0}

abbrev pub PutsNothing : Course → Type 0
PutsNothing (course.Put t) = ⊥
PutsNothing other = Unit {0}
