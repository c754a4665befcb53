-- The plain data of a board (own rules): the stories by the places of their nodes, and what happened last, oldest first. Moments are in milliseconds.
use Rattle.std.specs.Prelude.{ℕ, Bool, List, Option}
use Rattle.spk_story.specs.Data.{Story}
use Rattle.spk_board.specs.declared.happened.Happened.{Happened}
use Rattle.spk_board.specs.declared.screen.Screen.{Screen}

pub record BoardData : Type 0 where
  pub group : List ℕ
  pub screen : Screen
  pub stories : List Story
  pub events : List Happened
  pub is_connected : Bool
  -- something changed since it was drawn
  pub is_changed : Bool
  -- when it was drawn last
  pub drawn : Option ℕ
