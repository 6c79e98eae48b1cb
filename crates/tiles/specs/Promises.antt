-- What each public call of this crate promises (RULES 18 and 13.7): one proposition over all that it answers. The
-- answers are read as numbers and values (RULES 2.10).
use Rattle.std.specs.Prelude.{◌≡◌, List, ℕ, Result, Ok, Err}
use Rattle.words.specs.Words.{Told, refused, gives, number_in, Done, done, told}
use Rattle.frame.specs.Promises.{refusal_of}
use Rattle.tiles.specs.Panel.{new_panel, named_of, after_name, heard_of, after_hear, reading_of}
use Rattle.tiles.specs.declared.Reading.{Reading}
use Rattle.tiles.specs.declared.Panel.{Panel}
use Rattle.tiles.specs.declared.NotNamed.{NotNamed}
use Rattle.tiles.specs.declared.NotHeard.{NotHeard}
use Rattle.tiles.specs.declared.NotShown.{NotShown}
use Rattle.tiles.specs.declared.Named.{Named}
use Rattle.tiles.specs.declared.Heard.{Heard}

-- Panel::new

pub record New (r : Panel) : Type 0 where
  pub panel : r ≡ new_panel

-- Panel::name

abbrev pub Naming : Type 0
Naming = Result Unit NotNamed

abbrev pub number_of_not_named : NotNamed → ℕ
number_of_not_named NotNamed.BrokenState = 2
number_of_not_named NotNamed.NoSuchRow = 11
number_of_not_named NotNamed.NoSuchTile = 23
number_of_not_named NotNamed.RowNotAccepted = 24

abbrev pub told_naming : Naming → Told Done
told_naming (Ok nothing) = gives done
told_naming (Err why) = refused (number_of_not_named why)

pub record Name (tile row instance : ℕ) (p : Panel) (r : Named) : Type 0 where
  pub answer : told_naming r.answer ≡ named_of tile row p
  pub panel : r.panel ≡ after_name (named_of tile row p) tile row instance p

pub record NotNamedRefusal (why : NotNamed) (r : ℕ) : Type 0 where
  pub number : r ≡ number_of_not_named why

pub record NamingRefusal (answer : Naming) (r : ℕ) : Type 0 where
  pub number : r ≡ number_in (told_naming answer)

-- Panel::hear

abbrev pub Hearing : Type 0
Hearing = Result ℕ NotHeard

abbrev pub number_of_not_heard : NotHeard → ℕ
number_of_not_heard NotHeard.BrokenState = 2
number_of_not_heard (NotHeard.BadFrame why) = refusal_of why

abbrev pub told_hearing : Hearing → Told ℕ
told_hearing r = told number_of_not_heard r

pub record Hear (id : ℕ) (bytes : List ℕ) (p : Panel) (r : Heard) : Type 0 where
  pub answer : told_hearing r.answer ≡ heard_of id bytes p
  pub panel : r.panel ≡ after_hear id bytes p

pub record NotHeardRefusal (why : NotHeard) (r : ℕ) : Type 0 where
  pub number : r ≡ number_of_not_heard why

pub record HearingRefusal (answer : Hearing) (r : ℕ) : Type 0 where
  pub number : r ≡ number_in (told_hearing answer)

-- Panel::reading

abbrev pub Asking : Type 0
Asking = Result Reading NotShown

abbrev pub number_of_not_shown : NotShown → ℕ
number_of_not_shown NotShown.BrokenState = 2
number_of_not_shown NotShown.NoSuchTile = 23

abbrev pub told_asking : Asking → Told Reading
told_asking r = told number_of_not_shown r

pub record ReadTile (tile : ℕ) (p : Panel) (r : Asking) : Type 0 where
  pub answer : told_asking r ≡ reading_of tile p

pub record NotShownRefusal (why : NotShown) (r : ℕ) : Type 0 where
  pub number : r ≡ number_of_not_shown why

pub record AskingRefusal (answer : Asking) (r : ℕ) : Type 0 where
  pub number : r ≡ number_in (told_asking answer)
