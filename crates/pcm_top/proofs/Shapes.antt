-- What the sizes of a module are to its reports.
use Rattle.module_shape.specs.Limits.{IsShape, IsSmall}
use Rattle.command_line.specs.declared.job.MapJob.{MapJob}
use Rattle.rotation_reports.specs.MapText.{IsMapOptions}
use Rattle.pcm_top.specs.Jobs.{map_options}

-- a map has the sizes of a module
pub map_in_range : (job : MapJob) → IsShape job.shape → IsSmall job.shape → IsMapOptions (map_options job)
map_in_range job shape small = record {
  some_banks = shape.some_banks;
  few_banks = small.few_banks;
  some_regions = shape.some_regions;
  few_regions = small.few_regions;
  some_lines = shape.some_lines;
  few_lines = small.few_lines;
  few_spares = shape.few_spares;
  few_in_all = small.few_in_all;
  power_of_two = shape.whole_bits;
}
