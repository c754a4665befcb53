-- What all nodes come to (own rules): how many are shown in which way, and the sums of their figures, as far as 64 bits go.
use Rattle.std.specs.Prelude.{ℕ, List, length}
use Rattle.std.specs.List.{count_by, sum_by}
use Rattle.spk_story.specs.Data.{capped}
use Rattle.spk_page.specs.declared.look.Look.{Look}
use Rattle.spk_page.specs.declared.look.Look.TheVariants as Look
use Rattle.spk_page.specs.declared.node.Node.{Node}
use Rattle.spk_page.specs.declared.totals.Figure.{Figure}
use Rattle.spk_page.specs.declared.totals.Figure.TheVariants as Figure
use Rattle.spk_page.specs.declared.totals.Looks.{Looks}
use Rattle.spk_page.specs.declared.totals.Totals.{Totals}
use Rattle.spk_page.specs.Looks.{is_same}

abbrev pub figure_of : Figure → Node → ℕ
figure_of Figure.Down n = length n.down.items
figure_of Figure.Values n = n.values.all
figure_of Figure.Current n = n.values.current
figure_of Figure.Used n = n.counts.used
figure_of Figure.Gaps n = n.counts.gaps
figure_of Figure.Missing n = n.counts.missing
figure_of Figure.Unused n = n.counts.unused

-- how many nodes are shown so
abbrev pub count_of : Look → List Node → ℕ
count_of look ns = count_by (λ n. is_same look n.look) ns

-- a figure of all nodes
abbrev pub sum_of : Figure → List Node → ℕ
sum_of f ns = capped (sum_by (figure_of f) ns)

abbrev pub looks_of : List Node → Looks
looks_of ns = record {
  unborn = count_of Look.Unborn ns;
  current = count_of Look.Current ns;
  silent = count_of Look.Silent ns;
  lost = count_of Look.Lost ns;
  offline = count_of Look.Offline ns;
  away = count_of Look.Away ns;
}

abbrev pub totals_of : List Node → Totals
totals_of ns = record {
  nodes = length ns;
  looks = looks_of ns;
  down = sum_of Figure.Down ns;
  values = sum_of Figure.Values ns;
  current = sum_of Figure.Current ns;
  used = sum_of Figure.Used ns;
  gaps = sum_of Figure.Gaps ns;
  missing = sum_of Figure.Missing ns;
  unused = sum_of Figure.Unused ns;
}
