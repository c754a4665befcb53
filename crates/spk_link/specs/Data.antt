-- The plain data of a link. Moments and times are in milliseconds.
use Rattle.std.specs.Prelude.{ℕ}
use Rattle.spk_link.specs.declared.stand.Stand.{Stand}

pub record Link : Type 0 where
  -- the keep alive; 0 is none
  pub keep : ℕ
  -- how much longer a pause is, in 1,024ths
  pub spread : ℕ
  -- the next pause, without that
  pub pause : ℕ
  pub stand : Stand
