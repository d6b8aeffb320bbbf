-- What one step makes of a part that was read, or not read, before it.
use Rattle.std.specs.Prelude.{◌≡◌, List, [], ◌∷◌, ◌++◌, Result, Ok, IsErrOf}
use Rattle.hera_syntax.specs.declared.token.Token.{Token}
use Rattle.hera_syntax.specs.declared.token.Terminal.{Terminal}
use Rattle.hera_syntax.specs.Grammar.{leave}
use Rattle.hera_parser_exprs.specs.Reading.{Sticks}

-- the list has what was read as one item more
pub record Grown {A E : Type 0} (read : Result A E) (old new : List A) : Type 0 where
  pub item : A
  pub was_read : read ≡ Ok item
  pub longer : new ≡ old ++ item ∷ []

-- the part was not read, for this cause; or it was, and this terminal does not stand behind it
pub data StopsInOrAt {A E : Type 0} (read : Result A E) (cause : E) (end : Terminal) (old new : List Token) : Type 0 where
  inside : IsErrOf read cause → new ≡ old → StopsInOrAt read cause end old new
  behind : (part : A) → read ≡ Ok part → Sticks (leave end ∷ []) old new → StopsInOrAt read cause end old new
